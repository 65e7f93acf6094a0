use Rattle.ide_world.proofs.Words.{◌≡◌, ◌≤◌, ◌+◌, ◌*◌, drop, IfSome, fold, summary_after}
use Rattle.ide_text.specs.Text.{max_chars}
use Rattle.ide_world.proofs.walk.summary.Given as goal

abbrev pub invariant-loop-step : goal.invariant-loop-step
invariant-loop-step l = record {
  same : fold (summary_after l.id) l.summary (drop l.step-index l.steps) ≡ fold (summary_after l.id) l.fn.first l.steps;
  short : IfSome l.summary (λ summary. summary.len ≤ (l.step-index + 1) * max_chars);
}
