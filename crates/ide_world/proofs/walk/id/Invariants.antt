use Rattle.ide_world.proofs.Words.{◌≡◌, drop, fold, id_after}
use Rattle.ide_world.proofs.walk.id.Given as goal

abbrev pub invariant-loop-step : goal.invariant-loop-step
invariant-loop-step l = fold (id_after l.path) l.found (drop l.step-index l.steps) ≡ fold (id_after l.path) l.fn.first l.steps
