use Rattle.script_store.proofs.AlongLemmas.{GoesFromLane}
use Rattle.script_store.proofs.along.go_lanes.Given as goal

-- going on from here leads where going on from the first lane does
abbrev pub invariant-loop-place : goal.invariant-loop-place
invariant-loop-place l = GoesFromLane l.script.lanes l.fn.replay l.place l.replay
