use Rattle.action_lock.proofs.RuleLemmas.{◌≡◌, [], Marking, view_of, IsSamePass, IsWriting}
use Rattle.action_lock.proofs.lock.ActionLock.shut_first.Given as goal

abbrev pub invariant-loop : goal.invariant-loop
invariant-loop g l = let now = l.pass in let old = l.initial.pass in
    (goal.iterator-loop g).can_next l.iterator' × (goal.iterator-loop g).is_finite l.iterator' × IsSamePass old now
    × IsWriting l.self now (Marking (view_of now).places) [] × (view_of now ≡ view_of old)
