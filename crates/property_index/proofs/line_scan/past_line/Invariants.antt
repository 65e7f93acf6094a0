use Rattle.property_index.proofs.Words.{◌≡◌, ◌≤◌, length, ◌-◌, left_of, past_line}
use Rattle.property_index.proofs.line_scan.past_line.Given as goal

abbrev pub invariant-loop-c : goal.invariant-loop-c
invariant-loop-c l = record { left : past_line (left_of l.text l.at) ≡ past_line (left_of l.text l.from); forward : l.from ≤ l.at }

abbrev pub decreases-loop-c : goal.decreases-loop-c
decreases-loop-c l = length l.text - l.at
