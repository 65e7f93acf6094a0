use Rattle.property_index.proofs.Words.{◌≡◌, ◌≤◌, length, ◌-◌, trimmed, left_of}
use Rattle.property_index.proofs.line_scan.past_white_space.Given as goal

abbrev pub invariant-loop-c : goal.invariant-loop-c
invariant-loop-c l = record { left : trimmed (left_of l.text l.at) ≡ trimmed (left_of l.text l.from); forward : l.from ≤ l.at }

abbrev pub decreases-loop-c : goal.decreases-loop-c
decreases-loop-c l = length l.text - l.at
