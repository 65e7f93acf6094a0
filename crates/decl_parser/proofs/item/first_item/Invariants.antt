use Rattle.decl_parser.proofs.Words.{◌≡◌, ◌≤◌, ◌+◌, length, units_of, items_of, items_from}
use Rattle.decl_parser.proofs.item.first_item.Given as goal

-- the header so far and the units that are left give the items
abbrev pub invariant-loop-unit : goal.invariant-loop-unit
invariant-loop-unit l = record {
  same : items_from l.header.items (units_of l.rest) ≡ items_of (units_of l.level);
  no_more : length l.header.items + length l.rest ≤ length l.level;
}

abbrev pub decreases-loop-unit : goal.decreases-loop-unit
decreases-loop-unit l = length l.rest
