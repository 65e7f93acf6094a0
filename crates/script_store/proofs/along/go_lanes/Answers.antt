use Rattle.script_store.proofs.AlongLemmas.{next_lane}
use Rattle.script_store.proofs.along.go_lanes.Goals as goal

pub loop-place-preserved : goal.loop-place-preserved
loop-place-preserved c =
    next_lane c.args.script.now.lanes c.args.replay.now c.loop-place.place c.lane.result.now c.loop-place.replay c.go_along.new.replay
    c.lane.ensures.lines c.in_ok-go_along.ensures c.loop-place.invariant
