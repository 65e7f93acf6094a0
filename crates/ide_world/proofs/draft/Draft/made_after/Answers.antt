use Rattle.ide_world.proofs.Words.{arith, nat_tests, length-with_row}
use Rattle.ide_world.proofs.draft.Draft.made_after.Goals as goal

pub returns-then-step-self-clause-value : goal.returns-then-step-self-clause-value
returns-then-step-self-clause-value c =
    let h = rw (← c.self.view_is) at c.requires in
    rw (← c.self.view_is, length-with_row _ _ _ h.some h.within) (grind (arith, nat_tests, c.self.invariant.made, c.if-step-self.true, h.within))

pub returns-else-step-self-clause-value : goal.returns-else-step-self-clause-value
returns-else-step-self-clause-value c =
    let h = rw (← c.self.view_is) at c.requires in
    rw (← c.self.view_is, length-with_row _ _ _ h.some h.within) (grind (arith, nat_tests, c.self.invariant.made, c.if-step-self.false))
