use Rattle.decl_parser.proofs.Words.{arith, common_steps}
use Rattle.decl_parser.proofs.Stages.{without_annotations-none}
use Rattle.decl_parser.proofs.annotation.without_annotations.Goals as goal

-- no node is a `@`
pub returns-else-has_at : goal.returns-else-has_at
returns-else-has_at c = grind (arith, common_steps, without_annotations-none)
