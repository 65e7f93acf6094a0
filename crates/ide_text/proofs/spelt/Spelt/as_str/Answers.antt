use Rattle.ide_text.proofs.Utf8Lemmas.{rules, encodes-chars, scalars-chars}
use Rattle.ide_text.proofs.spelt.Spelt.as_str.Goals as goal

pub returns : goal.returns
returns c = search (rules, encodes-chars, scalars-chars)
