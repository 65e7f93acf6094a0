use Rattle.decl_parser.proofs.Words.{◌≡◌, ◌-◌, suc, refl, arith, append-nil, max_depth, common_steps}
use Rattle.decl_parser.specs.Listing.{item_stubs, level_stubs}
use Rattle.decl_parser.proofs.listing.+level.Goals as goal

-- the item declares nothing
pub add_item-returns-in_default : goal.add_item-returns-in_default
unfolding item_stubs
add_item-returns-in_default t c = rw (← c.in_ok-header.ensures, ← c.deref.ensures.value, c.in_default.ensures, append-nil) refl

-- the item declares a type with its members, or something else
pub add_item-returns : goal.add_item-returns
unfolding item_stubs
add_item-returns t c = grind (arith, common_steps)

-- the level is too deep
pub add_level-returns-then-depth-gt-MAX_DEPTH : goal.add_level-returns-then-depth-gt-MAX_DEPTH
unfolding level_stubs
add_level-returns-then-depth-gt-MAX_DEPTH t c = let none : suc max_depth - c.args.depth ≡ 0 = omega arith in rw (none, append-nil) refl

-- the constants were added, and all items are left
pub add_level-loop-item-init : goal.add_level-loop-item-init
unfolding level_stubs
add_level-loop-item-init t c = grind (arith, common_steps, c.in_ok-rest.ensures.added, c.in_ok-rest.ensures.items)
