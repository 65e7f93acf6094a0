use Rattle.ide_text.proofs.Utf8Lemmas.{rules, chars-ascii_part}
use Rattle.ide_text.proofs.chars.Chars.letters.Goals as goal

pub returns-in-Ascii : goal.returns-in-Ascii
returns-in-Ascii c = search (rules, chars-ascii_part)
