use Rattle.script_store.proofs.AlongLemmas.{GoesFrom}
use Rattle.script_store.proofs.along.go_along.Given as goal

-- going on from here leads where going on from the start does
abbrev pub invariant-loop-at : goal.invariant-loop-at
invariant-loop-at l = GoesFrom l.lines l.loads l.fn.replay l.at l.replay
