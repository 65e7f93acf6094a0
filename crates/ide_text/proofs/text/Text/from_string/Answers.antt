use Rattle.std.proofs.Common.{◌≤◌, false, length, chars, string_bytes, refl, arith}
use Rattle.std.proofs.lemmas.Bool.{le-leb, lt-leb}
use Rattle.std.proofs.lemmas.Str.{IsUtf8-string_bytes, scalars-chars}
use Rattle.ide_text.specs.Chars.{chars_of}
use Rattle.ide_text.specs.Text.{max_chars}
use Rattle.ide_text.proofs.TextLemmas.{text_of-spelled, repaired_fine}
use Rattle.ide_text.proofs.text.Text.from_string.Goals as goal

pub invariant_of-result : goal.invariant_of-result
invariant_of-result c =
    let bytes = string_bytes c.args.text in let fine = repaired_fine false (chars bytes) (scalars-chars bytes (IsUtf8-string_bytes c.args.text)) in
    let few : length (chars_of c.in-Ok.chars) ≤ max_chars = omega arith in
    (rw c.in-Ok.ensures.value (record { few = rw (← c.in-Ok.ensures.value) few; scalars = fine.0; no_return = fine.1 }), c.in-Ok.ensures.kept)

pub returns-in-Ok-clause-err : goal.returns-in-Ok-clause-err
returns-in-Ok-clause-err c =
    let many = lt-leb (length (chars_of c.in-Ok.chars)) max_chars (omega arith) in
    rw (text_of-spelled _ _ (IsUtf8-string_bytes c.args.text) c.in-Ok.ensures.value, many, c.len-in-Ok.ensures) refl

pub returns-in-Ok-2-clause-ok : goal.returns-in-Ok-2-clause-ok
returns-in-Ok-2-clause-ok c =
    rw (text_of-spelled _ _ (IsUtf8-string_bytes c.args.text) c.in-Ok.ensures.value, le-leb (length (chars_of c.in-Ok.chars)) max_chars (omega arith)) refl
