use Rattle.script_store.proofs.AlongLemmas.{next_line}
use Rattle.script_store.proofs.along.go_along.Goals as goal

pub loop-at-preserved : goal.loop-at-preserved
loop-at-preserved c =
    next_line c.args.lines.now c.args.loads.now c.args.replay.now c.loop-at.at c.index-lines-at.result c.get.result c.loop-at.replay c.go.new.replay
    c.loop-at-test.true c.index-lines-at.is c.get.ensures.lookup.3 c.get.ensures.lookup.1 c.in_ok-go.ensures c.loop-at.invariant
