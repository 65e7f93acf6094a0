use Rattle.property_index.proofs.Words.{◌≡◌, ◌≤◌, length, ◌-◌, left_of, inside_from}
use Rattle.property_index.proofs.line_scan.past_logical_line.Given as goal

abbrev pub invariant-loop-c : goal.invariant-loop-c
invariant-loop-c l = record { behind : (inside_from (left_of l.text l.at)).1 ≡ (inside_from (left_of l.text l.from)).1; forward : l.from ≤ l.at }

abbrev pub decreases-loop-c : goal.decreases-loop-c
decreases-loop-c l = length l.text - l.at
