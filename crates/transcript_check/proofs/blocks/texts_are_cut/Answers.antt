use Rattle.transcript_check.proofs.TextBlocks.{blocks-of-texts}
use Rattle.transcript_check.proofs.blocks.texts_are_cut.Goals as goal

pub returns : goal.returns
returns c = blocks-of-texts
