use Rattle.decl_parser.proofs.Words.{◌≡◌, ◌≤◌, length, units_of}
use Rattle.decl_parser.proofs.unit.first_unit.Given as goal

-- what was passed over gives no unit
abbrev pub invariant-loop-node : goal.invariant-loop-node
invariant-loop-node l = record { same : units_of l.rest ≡ units_of l.level; no_more : length l.rest ≤ length l.level }

abbrev pub decreases-loop-node : goal.decreases-loop-node
decreases-loop-node l = length l.rest
