use Rattle.java_tokens.proofs.Common.{sym}
use Rattle.java_tokens.proofs.FrontLemmas.{front_less, front_greater}
use Rattle.java_tokens.proofs.fronted.Fronted.order.Goals as goal

-- the lower front is that of the lower name
pub returns-then-self-other : goal.returns-then-self-other
returns-then-self-other c =
    rw (← c.self.view_is, ← c.other.view_is) (sym (front_less _ _ (rw (c.self.invariant, c.other.invariant) at c.if-self-other.true)))

pub returns-then-other-self : goal.returns-then-other-self
returns-then-other-self c =
    rw (← c.self.view_is, ← c.other.view_is) (sym (front_greater _ _ (rw (c.self.invariant, c.other.invariant) at c.if-other-self.true)))
