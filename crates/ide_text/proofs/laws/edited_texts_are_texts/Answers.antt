use Rattle.ide_text.proofs.TextLemmas.{IsText-with_piece, IsText-without_part}
use Rattle.ide_text.proofs.laws.edited_texts_are_texts.Goals as goal

pub returns : goal.returns
returns c = record { with_piece = IsText-with_piece; without_part = IsText-without_part }
