use Rattle.decl_parser.proofs.Words.{arith, common_steps}
use Rattle.decl_parser.specs.Unit.{units_past, items_from}
use Rattle.decl_parser.proofs.item.first_item.Goals as goal

-- the end of the level ends the item
pub returns-clause-some : goal.returns-clause-some
unfolding units_past items_from
returns-clause-some c = rw (← c.loop-unit.invariant.same, c.in_default.ensures.none) (grind (arith, common_steps))
