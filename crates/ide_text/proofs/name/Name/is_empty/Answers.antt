use Rattle.ide_text.proofs.Utf8Lemmas.{rules, empty-encodes}
use Rattle.ide_text.proofs.name.Name.is_empty.Goals as goal

pub returns : goal.returns
returns c = search (rules, empty-encodes)
