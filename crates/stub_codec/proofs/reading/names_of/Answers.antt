use Rattle.stub_codec.proofs.StubLemmas.{err_from_is_err_and, name_at, last, goes_on, ends, is_done}
use Rattle.stub_codec.proofs.reading.names_of.Goals as goal

pub returns-in_err-name : goal.returns-in_err-name
returns-in_err-name c =
    let p = err_from_is_err_and c.from_residual.result c.from_residual.ensures.1 in
    rw (p.1, p.2) (ends (λ _. name_at) _ (last c.loop.names) c.loop.names _ c.loop.counter _ _ c.loop-test.true c.in_err-name.ensures c.loop.invariant)

pub loop-preserved : goal.loop-preserved
loop-preserved c = rw c.in_ok-push.ensures.ok
    (goes_on (λ _. name_at) c.loop.names _ c.loop.counter c.loop.rest.now _ _ _ c.loop-test.true c.in_ok-name.ensures c.loop.invariant)

pub returns : goal.returns
returns c = is_done (λ _. name_at) (last c.loop.names) c.loop.names _ c.loop.counter c.loop.rest.now _ c.loop-test.false c.loop.invariant
