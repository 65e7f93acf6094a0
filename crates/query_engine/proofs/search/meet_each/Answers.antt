use Rattle.query_engine.proofs.LookLemmas.{met_next, met_stop, arith}
use Rattle.query_engine.proofs.search.meet_each.Goals as goal

pub loop-file-preserved : goal.loop-file-preserved
loop-file-preserved g c = record {
  can = c.look_after_another.ensures.again;
  stays = g.met.W.Watch.stays_on _ _ _ c.loop-file.invariant.stays c.look_after_another.ensures.stays;
  reached = rw c.in_ok-meet.ensures (rw c.in-Some.ensures.steps at c.loop-file.invariant.reached);
  met = met_next c.in-Some.ensures.steps c.loop-file.invariant.met (omega (arith, c.look_after_another.ensures.met)) c.in_ok-look_after_another.ensures.looked;
}

pub returns-in_err-look_after_another-clause-looked : goal.returns-in_err-look_after_another-clause-looked
returns-in_err-look_after_another-clause-looked g c =
    met_stop c.in-Some.ensures.steps c.loop-file.invariant.met (Unit {0}) _ c.from_residual-in_err-look_after_another.result _
    g.met.W.Watch.stays_on c.loop-file.invariant.stays c.in_err-look_after_another.ensures.early c.in_err-look_after_another.ensures.looked
    c.from_residual-in_err-look_after_another.ensures.1
