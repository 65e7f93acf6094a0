use Rattle.decl_parser.proofs.Words.{arith, Lone, in_role}
use Rattle.decl_parser.proofs.Stages.{changed-at}
use Rattle.decl_parser.proofs.forest.take_out.Goals as goal

pub returns-then-place-len-clause-role : goal.returns-then-place-len-clause-role
returns-then-place-len-clause-role c = rw c.with_role.ensures ((changed-at (in_role Lone) _ _).0 _ c.index.ensures)

pub returns-else-place-len-clause-role : goal.returns-else-place-len-clause-role
returns-else-place-len-clause-role c = (changed-at (in_role Lone) c.args.nodes.now.items c.args.place).1 (omega arith)
