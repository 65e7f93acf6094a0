use Rattle.transcript_check.proofs.StepLemmas.{cancelled_text, rules, ◌≡◌}
use Rattle.transcript_check.proofs.told.is_given_up.Goals as goal

pub returns-in_ok-wanted-in-Soft : goal.returns-in_ok-wanted-in-Soft
returns-in_ok-wanted-in-Soft c = λ seat.
    let whole : c.deref.result.now ≡ c.in_ok-wanted-in-Soft.wanted.items = search rules in
    rw (c.in-Soft.is, c.is.ensures, whole, c.in_ok-wanted-in-Soft.ensures, cancelled_text seat c.args.line.now.number c.in-Soft.attempts)
