use Rattle.decl_parser.proofs.Words.{◌≡◌, ◌≤◌, length, units_of, items_behind_value}
use Rattle.decl_parser.proofs.item.behind_value.Given as goal

-- the units that are left decide
abbrev pub invariant-loop-unit : goal.invariant-loop-unit
invariant-loop-unit l =
    record { same : items_behind_value (units_of l.rest) ≡ items_behind_value (units_of l.level); no_more : length l.rest ≤ length l.level }

abbrev pub decreases-loop-unit : goal.decreases-loop-unit
decreases-loop-unit l = length l.rest
