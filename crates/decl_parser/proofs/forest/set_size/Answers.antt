use Rattle.decl_parser.proofs.Words.{sized, common_steps, arith}
use Rattle.decl_parser.proofs.Stages.{changed-at}
use Rattle.decl_parser.proofs.forest.set_size.Goals as goal

pub returns-then-place-len-clause-size : goal.returns-then-place-len-clause-size
returns-then-place-len-clause-size c =
    grind (arith, common_steps, (changed-at (sized c.saturating_sub-size.result) c.args.nodes.now.items c.args.place).0 _ c.index.ensures)

pub returns-else-place-len-clause-size : goal.returns-else-place-len-clause-size
returns-else-place-len-clause-size c = (changed-at _ c.args.nodes.now.items c.args.place).1 (omega arith)
