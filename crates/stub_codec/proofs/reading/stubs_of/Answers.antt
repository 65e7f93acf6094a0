use Rattle.stub_codec.proofs.StubLemmas.{err_from_is_err_and, stub_at, last, goes_on, ends, is_done}
use Rattle.stub_codec.proofs.reading.stubs_of.Goals as goal

pub returns-in_err-stub : goal.returns-in_err-stub
returns-in_err-stub c =
    let p = err_from_is_err_and c.from_residual.result c.from_residual.ensures.1 in
    rw (p.1, p.2) (ends stub_at _ (last c.loop.stubs.items) c.loop.stubs.items c.args.count c.loop.counter c.loop.rest.now _ c.loop-test.true
    (rw (c.last.ensures.value, c.deref.ensures.value) at c.in_err-stub.ensures) c.loop.invariant)

pub loop-preserved : goal.loop-preserved
loop-preserved c = rw c.in_ok-push.ensures.items
    (goes_on stub_at c.loop.stubs.items c.args.count c.loop.counter c.loop.rest.now c.in_ok-stub.stub c.in_ok-stub.after.now _ c.loop-test.true
    (rw (c.last.ensures.value, c.deref.ensures.value) at c.in_ok-stub.ensures) c.loop.invariant)

pub returns : goal.returns
returns c = is_done stub_at (last c.loop.stubs.items) c.loop.stubs.items _ c.loop.counter c.loop.rest.now _ c.loop-test.false c.loop.invariant
