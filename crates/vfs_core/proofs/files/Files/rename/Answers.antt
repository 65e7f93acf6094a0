use Rattle.vfs_core.proofs.Words.{Some, ap, sym, ◌∙◌, arith, cond, bytes_eq, nat_list_eq_equiv, renamed}
use Rattle.vfs_core.proofs.KeptLemmas.{set_twice, each_twice, put_kept, is_id-Some}
use Rattle.vfs_core.proofs.PathLemmas.{place_kept}
use Rattle.vfs_core.proofs.files.Files.rename.Goals as goal

pub set-requires : goal.set-requires
set-requires c =
    let path = c.in-Some.row.path in
    let found = rw (← c.put.ensures.old, c.in-Some.is) at (c.self.invariant.found path c.args.id) in
    place_kept c.self.inside.paths path c.args.id (is_id-Some c.args.id _ (found ∙ nat_list_eq_equiv.refl path))

pub invariant_of-self : goal.invariant_of-self
invariant_of-self c =
    let new = renamed c.args.to c.draw-stamp.result c.in-Some.row in
    let was = sym c.put.ensures.old ∙ c.in-Some.is in
    let old = rw was at (c.self.invariant.stamped c.args.id) in
    let free = rw (← c.draw-stamp.ensures.rows, ← c.self.view_is) at c.requires.free in
    let place = rw (← c.self.view_is) at (c.draw-stamp.ensures.keeps_room.paths c.args.to c.requires.place) in
    put_kept c.self.inside c.put-2.new.self c.set-2.new.self c.args.id (Some new) c.self.invariant
    (each_twice c.self.inside.rows.rows c.put.new.self.rows _ c.args.id (Some new) c.put.ensures.each c.put-2.ensures.each)
    (λ path. rw was (c.set-2.ensures.ids path ∙ ap (cond (bytes_eq c.args.to path) (Some c.args.id)) (c.set.ensures.ids path)))
    (λ lacks. (free, place)) (record {
      stamp = omega (arith, ap (λ h. h.next_stamp) c.self.view_is, c.draw-stamp.ensures.value, c.draw-stamp.ensures.stamp);
      indexed = old.indexed;
    })

pub returns-clause-rows : goal.returns-clause-rows
returns-clause-rows c = rw (← c.draw-stamp.ensures.value, ← c.draw-stamp.ensures.rows, ← c.self.view_is)
    (set_twice _ _ _ c.args.id (renamed c.args.to c.draw-stamp.result) c.in-Some.row (sym c.put.ensures.old ∙ c.in-Some.is)
    c.put.ensures.kept c.put.ensures.made c.put-2.ensures.kept)
