use Rattle.property_index.proofs.Words.{◌≡◌, ◌≤◌, length, ◌-◌, left_of, inside_from}
use Rattle.property_index.proofs.line_scan.past_joins.Given as goal

abbrev pub invariant-loop-at : goal.invariant-loop-at
invariant-loop-at l = record { same : inside_from (left_of l.text l.at) ≡ inside_from (left_of l.text l.from); forward : l.from ≤ l.at }

abbrev pub decreases-loop-at : goal.decreases-loop-at
decreases-loop-at l = length l.text - l.at
