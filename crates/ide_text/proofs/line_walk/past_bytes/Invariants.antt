use Rattle.std.proofs.Common.{◌≤◌, ◌-◌}
use Rattle.ide_text.specs.Walk.{IsAt}
use Rattle.ide_text.proofs.line_walk.past_bytes.Given as goal

-- the line and the column of the offset to which the loop has come
abbrev pub invariant-loop-found : goal.invariant-loop-found
invariant-loop-found l = record { ahead : l.spot.at ≤ l.at; spot : IsAt l.bytes l.spot }

abbrev pub decreases-loop-found : goal.decreases-loop-found
decreases-loop-found l = l.at - l.spot.at
