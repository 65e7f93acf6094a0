use Rattle.ide_world.proofs.Words.{◌≡◌, drop, fold, option_copied, committed_after}
use Rattle.ide_world.proofs.walk.committed.Given as goal

abbrev pub invariant-loop-step : goal.invariant-loop-step
invariant-loop-step l =
    fold (committed_after l.id) (option_copied l.text) (drop l.step-index l.steps) ≡ fold (committed_after l.id) (option_copied l.fn.first) l.steps
