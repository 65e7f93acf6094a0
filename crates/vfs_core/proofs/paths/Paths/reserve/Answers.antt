use Rattle.vfs_core.proofs.Words.{ap, sym, ◌∙◌, None, is_some}
use Rattle.vfs_core.proofs.PathLemmas.{has_name-keys, places-updated, id_kept-reserved}
use Rattle.vfs_core.proofs.paths.Paths.reserve.Goals as goal

pub returns-in_ok-insert-clause-same : goal.returns-in_ok-insert-clause-same
returns-in_ok-insert-clause-same c = rw (← c.self.view_is) (λ other.
    id_kept-reserved _ _ c.args.path.now other c.if-not-contains_key.ensures (rw c.in_ok-copy.ensures at (c.in_ok-insert.ensures.updates.0 other)))

pub returns-in_ok-insert-clause-room : goal.returns-in_ok-insert-clause-room
returns-in_ok-insert-clause-room c =
    rw (← c.in_ok-copy.ensures) (sym (has_name-keys c.insert.new.self.entries c.in_ok-copy.field-0) ∙ ap is_some c.in_ok-insert.ensures.updates.1)

pub returns-in_ok-insert-clause-keeps_room : goal.returns-in_ok-insert-clause-keeps_room
returns-in_ok-insert-clause-keeps_room c =
    rw (← c.self.view_is) (λ other. places-updated _ _ c.in_ok-copy.field-0 other None (c.in_ok-insert.ensures.updates.0 other))

pub returns-else-not-contains_key-clause-room : goal.returns-else-not-contains_key-clause-room
returns-else-not-contains_key-clause-room c =
    rw (← c.self.view_is) (sym (has_name-keys c.self.inside.ids.entries c.args.path.now) ∙ sym c.if-not-contains_key.ensures)
