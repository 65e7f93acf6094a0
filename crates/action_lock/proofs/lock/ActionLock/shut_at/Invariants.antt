use Rattle.action_lock.proofs.RuleLemmas.{◌≡◌, Shutting, shut_hand, view_of, IsSamePass, IsWriting}
use Rattle.action_lock.proofs.lock.ActionLock.shut_at.Given as goal

abbrev pub invariant-loop : goal.invariant-loop
invariant-loop g l = let now = l.pass in let old = l.initial.pass in
    (goal.iterator-loop g).can_next l.iterator' × (goal.iterator-loop g).is_finite l.iterator' × IsSamePass old now
    × IsWriting l.self now (Shutting l.place) (shut_hand (view_of now).places l.place) × (view_of now ≡ view_of old)
