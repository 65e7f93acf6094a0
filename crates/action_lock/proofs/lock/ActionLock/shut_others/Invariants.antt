use Rattle.action_lock.proofs.RuleLemmas.{◌≡◌, ◌<◌, Out, Shutting, shut_hand, with_phase, view_of, IsSamePass, IsWriting}
use Rattle.action_lock.proofs.lock.ActionLock.shut_others.Given as goal

abbrev pub invariant-loop-place : goal.invariant-loop-place
invariant-loop-place g l = let now = l.pass in let old = l.initial.pass in (0 < l.place) × IsSamePass old now
    × IsWriting l.self now (Shutting l.place) (shut_hand (view_of now).places l.place) × (with_phase Out (view_of now) ≡ with_phase Out (view_of old))
