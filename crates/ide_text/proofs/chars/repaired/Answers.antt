use Rattle.std.proofs.Common.{◌≡◌, rules, sym, ◌∙◌, chars, string_bytes}
use Rattle.std.proofs.lemmas.Result.{IfOk-weaker}
use Rattle.std.proofs.lemmas.Str.{IsUtf8-string_bytes, chars_from_encodes, chars-encodes, encodes-chars, scalars-chars}
use Rattle.ide_text.proofs.TextLemmas.{repaired-none, repaired_fine, HasNoReturn-spelled}
use Rattle.ide_text.proofs.chars.repaired.Goals as goal

pub returns-then-not-contains : goal.returns-then-not-contains
returns-then-not-contains c =
    let bytes = string_bytes c.args.text in let utf8 = IsUtf8-string_bytes c.args.text in
    let none = rw (c.as_bytes.ensures.value, ← encodes-chars bytes utf8) at (sym c.contains.ensures.value ∙ c.if-not-contains.true) in
    sym (repaired-none (chars bytes) (HasNoReturn-spelled (chars bytes) none))

pub returns : goal.returns
returns c =
    let bytes = string_bytes c.args.text in
    let all : c.deref-2.result.now ≡ chars bytes = c.deref-2.ensures.value ∙ (search (rules, chars_from_encodes)) in
    let fine = repaired_fine _ (chars bytes) (scalars-chars bytes (IsUtf8-string_bytes c.args.text)) in
    IfOk-weaker c.with_breaks_repaired.result _ _ (λ out spelled. rw spelled (chars-encodes _ fine.0)) (rw all at c.with_breaks_repaired.ensures)
