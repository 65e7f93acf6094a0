use Rattle.ide_text.proofs.TextLemmas.{text_again}
use Rattle.ide_text.proofs.laws.texts_are_read_back.Goals as goal

pub returns : goal.returns
returns c = text_again
