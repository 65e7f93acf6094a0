use Rattle.vfs_core.proofs.Words.{sym, ◌∙◌, arith, rewritten}
use Rattle.vfs_core.proofs.KeptLemmas.{set_twice}
use Rattle.vfs_core.proofs.files.Files.write.Goals as goal

pub returns-in-Some-clause-rows : goal.returns-in-Some-clause-rows
returns-in-Some-clause-rows c = rw (← c.draw-drawn.ensures.value, ← c.draw-drawn.ensures.rows, ← c.self.view_is)
    (set_twice _ _ _ c.args.id (rewritten c.args.content c.draw-drawn.result) c.in-Some.row (sym c.put.ensures.old ∙ c.in-Some.is)
    c.put.ensures.kept c.put.ensures.made c.put-in-Some.ensures.kept)

pub returns-in-Some-clause-keeps_room : goal.returns-in-Some-clause-keeps_room
returns-in-Some-clause-keeps_room c =
    let drawn = rw (← c.self.view_is) at c.draw-drawn.ensures.keeps_room in
    record { rows = omega (arith, drawn.rows, c.put.ensures.keeps_room, c.put-in-Some.ensures.keeps_room); paths = drawn.paths }
