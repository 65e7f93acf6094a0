use Rattle.ide_text.proofs.Utf8Lemmas.{rules, chars_from_encodes}
use Rattle.ide_text.proofs.name.Name.len.Goals as goal

pub returns : goal.returns
returns c = search (rules, chars_from_encodes)
