use Rattle.ide_calls.proofs.SettleLemmas.{one_more}
use Rattle.ide_calls.proofs.making.batch_from.Goals as goal

pub loop-preserved : goal.loop-preserved
loop-preserved g = one_more g.args.state.now.world _ _ g.in-Some.job g.in_ok-push.ensures.items g.loop.invariant (rw g.in-Some.is at g.in_ok-job.ensures)
