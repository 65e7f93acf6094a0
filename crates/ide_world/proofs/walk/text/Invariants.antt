use Rattle.ide_world.proofs.Words.{◌≡◌, drop, fold, text_after, AreTextEditsFit}
use Rattle.ide_world.proofs.walk.text.Given as goal

abbrev pub invariant-loop-step : goal.invariant-loop-step
invariant-loop-step l = record {
  same : fold (text_after l.id) l.text (drop l.step-index l.steps) ≡ fold (text_after l.id) l.fn.first l.steps;
  fit : AreTextEditsFit l.id l.text (drop l.step-index l.steps);
}
