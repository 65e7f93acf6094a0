use Rattle.vfs_core.proofs.Words.{refl, eq-eqb}
use Rattle.vfs_core.proofs.KeptLemmas.{put_kept}
use Rattle.vfs_core.proofs.files.Files.put.Goals as goal

pub invariant_of-self : goal.invariant_of-self
invariant_of-self c =
    let is = rw (eq-eqb c.args.id c.args.id refl) at (c.put-old.ensures.each c.args.id) in
    let may = rw (← c.self.view_is) at c.requires.path in
    let stamped = rw (← c.self.view_is) at c.requires.stamped in
    put_kept c.self.inside c.put-old.new.self c.follow.new.paths c.args.id c.args.row c.self.invariant c.put-old.ensures.each
    (λ path. rw (c.as_ref.ensures.value, c.put-old.ensures.old, c.at.ensures, is) at (c.follow.ensures.ids path)) may stamped

pub returns-clause-keeps_room : goal.returns-clause-keeps_room
returns-clause-keeps_room c = rw (← c.self.view_is) (record { rows = c.put-old.ensures.keeps_room; paths = c.follow.ensures.keeps_room })
