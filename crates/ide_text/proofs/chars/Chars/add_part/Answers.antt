use Rattle.ide_text.proofs.Utf8Lemmas.{rules, encodes-ascii_part}
use Rattle.ide_text.proofs.chars.Chars.add_part.Goals as goal

pub returns-in-Ascii : goal.returns-in-Ascii
returns-in-Ascii c = search (rules, encodes-ascii_part)
