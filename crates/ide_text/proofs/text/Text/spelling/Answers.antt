use Rattle.ide_text.proofs.TextLemmas.{rules, chars-part}
use Rattle.ide_text.proofs.text.Text.spelling.Goals as goal

pub returns : goal.returns
returns c = search (rules, chars-part)
