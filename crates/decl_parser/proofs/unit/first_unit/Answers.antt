use Rattle.decl_parser.proofs.Words.{arith, common_steps, refl, take_min, drop_min}
use Rattle.decl_parser.specs.Unit.{units_past}
use Rattle.decl_parser.proofs.Stages.{past-skip}
use Rattle.decl_parser.proofs.unit.first_unit.Goals as goal

-- the nodes of the unit were split off
pub returns-then-not-is-clause-some : goal.returns-then-not-is-clause-some
unfolding units_past
returns-then-not-is-clause-some c =
    let behind = past-skip units_past (λ skip n ns. refl) (λ skip. refl) c.in-Some.node.now.size c.in-Some.others.now in
    grind (arith, common_steps, take_min, drop_min, behind)
