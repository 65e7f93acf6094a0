use Rattle.ide_world.proofs.Words.{◌≡◌, ◌≤◌, drop, length, room_needed}
use Rattle.ide_world.proofs.steps.room_needed.Given as goal

-- the count is what is needed before the steps from a place on
abbrev pub invariant-loop-at : goal.invariant-loop-at
invariant-loop-at l = record {
  count : l.count ≡ room_needed l.id (drop l.at l.steps);
  within : l.at ≤ length l.steps;
}

-- the steps that are left
abbrev pub decreases-loop-at : goal.decreases-loop-at
decreases-loop-at l = l.at
