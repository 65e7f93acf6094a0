use Rattle.decl_parser.proofs.Words.{arith, common_steps}
use Rattle.decl_parser.proofs.Stages.{plain_past-annotation}
use Rattle.decl_parser.proofs.annotation.plain_nodes.Goals as goal

-- an annotation was passed over
pub loop-node-preserved-in-Some-behind_annotation : goal.loop-node-preserved-in-Some-behind_annotation
loop-node-preserved-in-Some-behind_annotation c = grind (arith, common_steps, plain_past-annotation)
