use Rattle.transcript_check.proofs.TextBlocks.{blocks-joined}
use Rattle.transcript_check.proofs.blocks.blocks_join.Goals as goal

pub returns : goal.returns
returns c = blocks-joined
