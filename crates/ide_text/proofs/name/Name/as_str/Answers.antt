use Rattle.ide_text.proofs.Utf8Lemmas.{rules, encodes-chars, scalars-chars}
use Rattle.ide_text.proofs.name.Name.as_str.Goals as goal

pub returns : goal.returns
returns c = search (rules, encodes-chars, scalars-chars)
