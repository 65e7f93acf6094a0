use Rattle.transcript_check.proofs.SideLemmas.{lane_gone, worker_gone, IfOk-weaker}
use Rattle.transcript_check.proofs.sides.seat_goes.Goals as goal

pub returns-then-seat-lanes : goal.returns-then-seat-lanes
returns-then-seat-lanes c = IfOk-weaker c.section_goes.result _ _ (λ went. lane_gone c.if-seat-lanes.true) c.section_goes.ensures

pub returns-else-seat-lanes : goal.returns-else-seat-lanes
returns-else-seat-lanes c = IfOk-weaker c.worker_goes.result _ _ (λ went. worker_gone c.if-seat-lanes.false) c.worker_goes.ensures
