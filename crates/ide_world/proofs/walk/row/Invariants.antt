use Rattle.ide_world.proofs.Words.{◌≡◌, drop, fold, option_copied, row_after}
use Rattle.ide_world.proofs.walk.row.Given as goal

abbrev pub invariant-loop-step : goal.invariant-loop-step
invariant-loop-step l = fold (row_after l.id) (option_copied l.row) (drop l.step-index l.steps) ≡ fold (row_after l.id) (option_copied l.fn.first) l.steps
