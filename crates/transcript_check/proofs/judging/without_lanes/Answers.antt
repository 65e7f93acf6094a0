use Rattle.transcript_check.proofs.MisfitLemmas.{lines_from, ◌≡◌, ◌+◌, suc, arith}
use Rattle.transcript_check.proofs.judging.without_lanes.Goals as goal

pub loop-place-preserved : goal.loop-place-preserved
loop-place-preserved c =
    let next : c.loop-place.place + 1 ≡ suc c.loop-place.place = omega arith in
    let lines = lines_from c.args.script.now.lanes c.loop-place.place c.lane.result.now c.lane.ensures.lines in
    rw next (omega (arith, lines, c.loop-place.invariant, c.saturating_sub-left.ensures))
