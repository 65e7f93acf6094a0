use Rattle.action_lock.proofs.RuleLemmas.{◌≡◌, [], Out, marked, with_phase, view_of, IsSamePass, IsWriting}
use Rattle.action_lock.proofs.lock.ActionLock.mark_all.Given as goal

abbrev pub invariant-loop-place : goal.invariant-loop-place
invariant-loop-place g l = let now = l.pass in let old = l.initial.pass in
    IsSamePass old now × IsWriting l.self now (marked l.place) [] × (with_phase Out (view_of now) ≡ with_phase Out (view_of old))
