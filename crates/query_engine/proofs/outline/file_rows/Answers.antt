use Rattle.query_engine.proofs.LookLemmas.{made_more, made_stopped, rules}
use Rattle.query_engine.proofs.FoundLemmas.{next_left}
use Rattle.query_engine.proofs.outline.file_rows.Goals as goal

pub loop-stub-preserved : goal.loop-stub-preserved
loop-stub-preserved g c =
    let next = next_left c.args.stubs.now c.loop-stub.stub-index c.loop-stub-test.true c.stub-item.is in
    let added = rw c.loop-stub.invariant.file at c.in_ok-add_stub.ensures.added in
    let rows = made_more next c.loop-stub.invariant.rows added c.in_ok-add_stub.ensures.looked in
    search (rules, rows, next, g.met.W.Watch.stays_on)

pub returns-in_err-add_stub-clause-looked : goal.returns-in_err-add_stub-clause-looked
returns-in_err-add_stub-clause-looked g c =
    let next = next_left c.args.stubs.now c.loop-stub.stub-index c.loop-stub-test.true c.stub-item.is in
    let stop = c.in_err-add_stub.ensures in
    made_stopped next c.loop-stub.invariant.rows (Unit {0}) _
    c.from_residual.result _ g.met.W.Watch.stays_on c.loop-stub.invariant.stays stop.early stop.looked c.from_residual.ensures.1
