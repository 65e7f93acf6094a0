use Rattle.transcript_check.proofs.MisfitLemmas.{after_turn, ◌∙◌, arith, ℕ, min, length, ap, List}
use Rattle.transcript_check.proofs.lanes.after_lanes.Goals as goal

pub loop-place-preserved : goal.loop-place-preserved
loop-place-preserved c = record {
  within = omega (arith, c.told_of-at.ensures, c.split_at.ensures.back_len, c.loop-place.invariant.within);
  behind =
      after_turn c.args.script.now.lanes c.loop-place.place c.lane.result.now c.loop-place.at c.told_of-at.result c.args.records.now
      c.lane.ensures.lines (c.told_of-at.ensures ∙ ap (λ (ts : List (List ℕ)). min (length c.lane.result.now) (length ts)) c.split_at.ensures.back)
      c.loop-place.invariant.behind;
}
