use Rattle.std.proofs.Common.{◌∙◌, ap, decimal, sym}
use Rattle.std.proofs.lemmas.Bool.{false≢true}
use Rattle.std.proofs.lemmas.Option.{none-some, same_Some}
use Rattle.std.proofs.lemmas.Slice.Eq.{bytes_eq-Decides}
use Rattle.command_line.proofs.RequestLemmas.{number_of-same, number_of-none}
use Rattle.command_line.proofs.number.number_of.Goals as goal

pub returns-in_err-number : goal.returns-in_err-number
returns-in_err-number c =
    c.from_residual.ensures
    ∙ number_of-none _ _ c.parse.ensures.value.0 (λ n is _. none-some n (sym c.in_err-number.was ∙ c.ok.ensures.value ∙ is))

pub returns-then-eq : goal.returns-then-eq
returns-then-eq c =
    number_of-same _ _ c.in_ok-number.number c.parse.ensures.value.0 (sym c.in_ok-number.was ∙ c.ok.ensures.value)
    (sym c.format.ensures.text ∙ (bytes_eq-Decides c.format.result.now c.args.text.now).0 (sym c.eq.ensures ∙ c.if-eq.true))

pub returns-else-eq : goal.returns-else-eq
returns-else-eq c =
    number_of-none _ _ c.parse.ensures.value.0 (λ n is same.
    let one = same_Some c.in_ok-number.number n (sym c.in_ok-number.was ∙ c.ok.ensures.value ∙ is) in
    let equal = (bytes_eq-Decides c.format.result.now c.args.text.now).1 (c.format.ensures.text ∙ ap decimal one ∙ same) in
    false≢true (sym c.if-eq.false ∙ c.eq.ensures ∙ equal))
