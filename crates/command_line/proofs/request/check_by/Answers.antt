use Rattle.std.proofs.Common.{◌∙◌, ap, sym, rules}
use Rattle.std.specs.Prelude.{option_map}
use Rattle.std.specs.Result.{result_ok}
use Rattle.command_line.proofs.RequestLemmas.{was}
use Rattle.command_line.proofs.request.check_by.Goals as goal

pub returns-in_err-path : goal.returns-in_err-path
returns-in_err-path c =
    let counted = ap result_ok (sym c.in_ok-workers.was) ∙ was _ _ _ c.ok_or.ensures.value ∙ c.number_in.ensures in
    let none = ap (option_map (λ s. s.now)) (ap result_ok (sym c.in_err-path.was) ∙ was _ _ _ c.ok_or-2.ensures.value) ∙ c.text_in.ensures in
    rw (← counted, ← none) (search rules)

pub returns-in_err-path-2 : goal.returns-in_err-path-2
returns-in_err-path-2 c =
    let counted = ap result_ok (sym c.in_ok-workers.was) ∙ was _ _ _ c.ok_or.ensures.value ∙ c.number_in.ensures in
    let given = ap (option_map (λ s. s.now)) (ap result_ok (sym c.in_ok-path.was) ∙ was _ _ _ c.ok_or-2.ensures.value) ∙ c.text_in.ensures in
    rw (← counted, ← given) (search rules)

pub returns : goal.returns
returns c =
    let counted = ap result_ok (sym c.in_ok-workers.was) ∙ was _ _ _ c.ok_or.ensures.value ∙ c.number_in.ensures in
    let given = ap (option_map (λ s. s.now)) (ap result_ok (sym c.in_ok-path.was) ∙ was _ _ _ c.ok_or-2.ensures.value) ∙ c.text_in.ensures in
    rw (← counted, ← given) (search rules)
