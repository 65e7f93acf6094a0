use Rattle.decl_parser.proofs.Words.{◌≡◌, ◌++◌, ◌+◌, ◌-◌, ◌*◌, length, flat_map, max_depth, units_of, items_of, item_stubs, stubs_at}
use Rattle.decl_parser.proofs.listing.+level.Given as goal

abbrev pub decreases-add_item : goal.decreases-add_item
decreases-add_item l = 2 * (max_depth + 2 - l.depth)

abbrev pub decreases-add_level : goal.decreases-add_level
decreases-add_level l = 2 * (max_depth + 2 - l.depth) + 1

-- the stubs so far and those of the items that are left are all
abbrev pub invariant-add_level-loop-item : goal.invariant-add_level-loop-item
invariant-add_level-loop-item l =
    l.stubs.items ++ flat_map (item_stubs l.text l.depth (stubs_at l.text (l.depth + 1)) l.holder) (items_of (units_of l.rest))
    ≡ l.fn.stubs.items ++ stubs_at l.text l.depth l.holder (units_of l.level)

abbrev pub decreases-add_level-loop-item : goal.decreases-add_level-loop-item
decreases-add_level-loop-item l = length l.rest
