use Rattle.vfs_core.proofs.Words.{None, ◌∙◌, with_row-set, live_inside}
use Rattle.vfs_core.proofs.files.Files.remove.Goals as goal

pub returns-clause-rows : goal.returns-clause-rows
returns-clause-rows c =
    let inside = live_inside c.args.self.now.rows c.args.id c.requires.live in
    c.put.ensures.rows ∙ with_row-set c.args.id None c.args.self.now.rows inside.0 inside.1
