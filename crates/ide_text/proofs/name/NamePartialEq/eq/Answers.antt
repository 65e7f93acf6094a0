use Rattle.ide_text.proofs.Utf8Lemmas.{bytes_eq-chars}
use Rattle.ide_text.proofs.name.NamePartialEq.eq.Goals as goal

pub returns : goal.returns
returns c = rw (← c.as_str.ensures.value, ← c.as_str-2.ensures.value, c.eq.ensures) (bytes_eq-chars _ _ c.as_str.utf8 c.as_str-2.utf8)
