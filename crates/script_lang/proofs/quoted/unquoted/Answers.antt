use Rattle.script_lang.proofs.Words.{append_assoc, chars-nil, arith, ◌≡◌, ◌++◌, sym, rules, string_bytes, chars, append-nil, IsUtf8-string_bytes}
use Rattle.script_lang.proofs.Words.{option_to_list}
use Rattle.script_lang.specs.Quotes.{unquoted_from}
use Rattle.script_lang.proofs.FieldLemmas.{chars-push}
use Rattle.script_lang.proofs.quoted.unquoted.Goals.{in-Some-meant+in_ok-push, in_default-meant, in-Behind, in_default-place}
use Rattle.script_lang.proofs.quoted.unquoted.Goals as goal

pub loop-c-init : goal.loop-c-init
loop-c-init c = (search rules, grind (arith, chars-nil, c.in_ok-text.ensures.bytes))

pub returns-in_default-step : goal.returns-in_default-step
unfolding unquoted_from
returns-in_default-step c = grind (arith, c.step.ensures, c.in_default-step.is, rw c.in-Some.ensures.cut at c.loop-c.invariant.1)

pub loop-c-preserved : goal.loop-c-preserved
unfolding unquoted_from
loop-c-preserved c =
    let old = chars (string_bytes c.loop-c.text) in
    let one : chars (string_bytes c.match-meant.text) ≡ old ++ option_to_list c.in-Some-step.meant = elim c.match-meant.branch [
      | in-Some-meant+in_ok-push w ↦ rw (w.text-is, w.in-Some-meant.is)
          (chars-push _ _ _ (IsUtf8-string_bytes c.loop-c.text) (IsUtf8-string_bytes w.push.new.self) w.in_ok-push.ensures.bytes)
      | in_default-meant w ↦ rw (w.text-is, w.in_default-meant.is) (sym (append-nil old))
    ] in
    let before = rw c.in-Some.ensures.cut at c.loop-c.invariant.1 in
    (search rules, grind (arith, append_assoc, c.step.ensures, c.in-Some-step.is, one, c.in_ok-rest.ensures.same, before))

pub returns : goal.returns
unfolding unquoted_from
returns c =
    let before = rw c.in_default.ensures.cut at c.loop-c.invariant.1 in
    elim c.match-place.branch [
      | in-Behind w ↦ rw w.result-is (grind (arith, append-nil, w.in-Behind.is, before))
      | in_default-place w ↦ rw w.result-is (grind (arith, w.in_default-place.not-Behind, before))
    ]
