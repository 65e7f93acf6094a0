use Rattle.std.proofs.Common.{refl, sym, subst, ◌∙◌}
use Rattle.std.specs.Str.{IsUtf8}
use Rattle.byte_fields.proofs.CharacterLemmas.{no_text, is_text}
use Rattle.byte_fields.proofs.reading.characters_of.Goals as goal

-- the bytes are no UTF-8
pub returns-in_default : goal.returns-in_default
returns-in_default c =
    no_text c.args.len c.args.bytes.now c.in_ok-check.field-0 c.in_ok-check.ensures (λ utf8. c.in_default.ensures.cases.0 (subst IsUtf8 (sym c.split_at.ensures.front) utf8))

-- the bytes are UTF-8
pub returns : goal.returns
returns c =
    let front = c.split_at.ensures.front in
    is_text c.args.len c.args.bytes.now c.in_ok-check.field-0 c.in_ok-check.ensures (subst IsUtf8 front c.in-Ok.ensures.cases.1)
    ∙ rw (c.in_ok-of.ensures, c.in-Ok.ensures.cases.0, front, c.split_at.ensures.back) refl
