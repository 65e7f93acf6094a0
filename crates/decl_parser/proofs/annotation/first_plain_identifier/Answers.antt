use Rattle.decl_parser.proofs.Words.{arith, common_steps}
use Rattle.decl_parser.proofs.Stages.{plain_past-annotation}
use Rattle.decl_parser.proofs.annotation.first_plain_identifier.Goals as goal

-- an annotation was passed over
pub loop-node-preserved : goal.loop-node-preserved
loop-node-preserved c = grind (arith, common_steps, plain_past-annotation)
