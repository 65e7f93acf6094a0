use Rattle.action_lock.proofs.RuleLemmas.{◌≡◌, ◌+◌, ◌<◌, Out, shut_hand, opened, with_phase, view_of, IsSamePass, IsWriting}
use Rattle.action_lock.proofs.lock.ActionLock.open_all.Given as goal

abbrev pub invariant-loop-place : goal.invariant-loop-place
invariant-loop-place g l = let now = l.pass in let old = l.initial.pass in let places = (view_of now).places in
    (l.place < places) × IsSamePass old now × IsWriting l.self now (opened places (l.place + 1)) (shut_hand places (l.place + 1))
    × (with_phase Out (view_of now) ≡ with_phase Out (view_of old)) × g.H.Home.stands l.home (view_of now).seen

abbrev pub decreases-loop-place : goal.decreases-loop-place
decreases-loop-place g l = l.place
