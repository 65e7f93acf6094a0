use Rattle.query_engine.proofs.LookLemmas.{made_more, made_stopped, rules}
use Rattle.query_engine.proofs.key_rows.key_rows.Goals as goal

pub loop-id-preserved : goal.loop-id-preserved
loop-id-preserved g c =
    let added = rw c.continued-file.ensures.file at c.in_ok-add_place.ensures.added in
    let rows = made_more c.in-Some.ensures.steps c.loop-id.invariant.rows added c.in_ok-add_place.ensures.looked in
    search (rules, rows, g.met.W.Watch.stays_on)

pub returns-in_err-add_place-clause-looked : goal.returns-in_err-add_place-clause-looked
returns-in_err-add_place-clause-looked g c =
    let stop = c.in_err-add_place.ensures in
    made_stopped c.in-Some.ensures.steps c.loop-id.invariant.rows (Unit {0}) _
    c.from_residual.result _ g.met.W.Watch.stays_on c.loop-id.invariant.stays stop.early stop.looked c.from_residual.ensures.1
