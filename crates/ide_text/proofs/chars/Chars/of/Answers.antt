use Rattle.ide_text.proofs.Utf8Lemmas.{rules, chars-IsAscii, chars_from_encodes}
use Rattle.ide_text.proofs.chars.Chars.of.Goals as goal

pub returns-then-is_ascii-clause-value : goal.returns-then-is_ascii-clause-value
returns-then-is_ascii-clause-value c = search (rules, chars-IsAscii)

pub returns-clause-value : goal.returns-clause-value
returns-clause-value c = search (rules, chars_from_encodes)
