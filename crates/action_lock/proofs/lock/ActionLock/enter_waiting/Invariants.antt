use Rattle.action_lock.proofs.RuleLemmas.{view_of, IsSamePass, IsOut, HasLooked}
use Rattle.action_lock.proofs.lock.ActionLock.enter_waiting.Given as goal

abbrev pub invariant-loop : goal.invariant-loop
invariant-loop g l = let now = l.pass in let old = l.initial.pass in
    (goal.iterator-loop g).can_next l.iterator' × (goal.iterator-loop g).is_finite l.iterator' × IsSamePass old now × IsOut l.self now
    × HasLooked (view_of old) (view_of now)
