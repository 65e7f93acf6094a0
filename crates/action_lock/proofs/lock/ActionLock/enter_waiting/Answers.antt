use Rattle.action_lock.proofs.RuleLemmas.{rules, looked_again}
use Rattle.action_lock.proofs.lock.ActionLock.enter_waiting.Goals as goal

pub loop-preserved-in-Err-Pending : goal.loop-preserved-in-Err-Pending
loop-preserved-in-Err-Pending g c = let told = rw c.in-Err-Pending.field-0-is at c.in-Err-Pending.ensures.err in
    (tt, tt, search rules, told.0, looked_again _ _ _ _ c.loop.invariant.4 told.1.1)
