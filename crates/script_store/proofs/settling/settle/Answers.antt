use Rattle.script_store.proofs.AlongLemmas.{settle_over, settle_full, settle_goes_on, fewer_unready}
use Rattle.script_store.proofs.settling.settle.Goals as goal

pub loop-smaller : goal.loop-smaller
loop-smaller c = fewer_unready c.loop.replay c.settle_next.new.self _ c.in-Taken.file c.in-Taken.is c.in_ok-settle_next.ensures.step

pub loop-preserved : goal.loop-preserved
loop-preserved c = λ final rest.
    c.loop.invariant final (settle_goes_on c.loop.replay c.settle_next.new.self final _ c.in-Taken.file c.in-Taken.is c.in_ok-settle_next.ensures.step rest)

pub returns-in-Full : goal.returns-in-Full
returns-in-Full c = c.loop.invariant c.settle_next.new.self
    (settle_full c.loop.replay c.settle_next.new.self _ c.in-Full.file c.in-Full.is c.in_ok-settle_next.ensures.step)

pub returns-in-Over : goal.returns-in-Over
returns-in-Over c = c.loop.invariant c.settle_next.new.self (settle_over c.loop.replay c.settle_next.new.self _ c.in-Over.is c.in_ok-settle_next.ensures.step)
