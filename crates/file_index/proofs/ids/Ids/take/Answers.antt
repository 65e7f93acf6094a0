use Rattle.file_index.proofs.IdLemmas.{all_removed, remove_rises, has_id-remove, missed_has}
use Rattle.file_index.proofs.ids.Ids.take.Goals as goal

pub invariant_of-self : goal.invariant_of-self
invariant_of-self c =
    let ids = c.self.inside.ids.items in
    rw c.remove.ensures.items (remove_rises ids c.in-Ok.at c.self.invariant.0, all_removed _ ids c.in-Ok.at c.self.invariant.1)

pub returns-in-Ok : goal.returns-in-Ok
returns-in-Ok c = λ j. rw (c.remove.ensures.items, c.self.view_is)
    (has_id-remove c.args.self.now c.in-Ok.at c.args.id j (rw c.self.view_is at c.self.invariant.0) c.in-Ok.ensures)

pub returns-in_default : goal.returns-in_default
returns-in_default c = missed_has c.args.self.now c.in_default.field-0 c.args.id c.in_default.ensures
