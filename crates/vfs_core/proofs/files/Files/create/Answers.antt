use Rattle.vfs_core.proofs.Words.{◌+◌, ap, ◌∙◌, arith, length, with_row-push}
use Rattle.vfs_core.proofs.files.Files.create.Goals as goal

pub returns-clause-rows : goal.returns-clause-rows
returns-clause-rows c =
    let long = ap length c.draw-stamp.ensures.rows in
    rw (← c.draw-stamp.ensures.value, ← c.draw-stamp.ensures.rows)
    (c.put.ensures.rows ∙ with_row-push (c.made.result + 1) _ c.draw-stamp.new.self.rows (omega (arith, c.made.ensures.value, long)))
