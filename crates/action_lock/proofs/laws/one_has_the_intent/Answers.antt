use Rattle.action_lock.proofs.RuleLemmas.{ap, arith, one_if, total-two, View}
use Rattle.action_lock.proofs.laws.one_has_the_intent.Goals as goal

pub returns : goal.returns
returns g c = λ places s i j v w r apart at_v has at_w also.
    let two = total-two (λ (u : View _). one_if u.intent) s.views i j v w apart at_v at_w in
    let one = r.placed.one_intent in let mine = ap one_if has in let other = ap one_if also in absurd (omega arith)
