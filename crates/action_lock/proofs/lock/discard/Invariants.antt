use Rattle.action_lock.proofs.RuleLemmas.{All, HasNoHome}
use Rattle.action_lock.proofs.lock.discard.Given as goal

abbrev pub invariant-loop-slot : goal.invariant-loop-slot
invariant-loop-slot g l = All HasNoHome l.slots.items

abbrev pub decreases-loop-slot : goal.decreases-loop-slot
decreases-loop-slot g l = goal.left-loop-slot g l
