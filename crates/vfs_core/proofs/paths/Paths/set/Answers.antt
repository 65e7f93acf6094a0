use Rattle.vfs_core.proofs.Words.{ap, ◌∙◌, is_some, false≢true}
use Rattle.vfs_core.proofs.PathLemmas.{has_name-keys, id_kept-updated}
use Rattle.vfs_core.proofs.paths.Paths.set.Goals as goal

pub unreachable-requires : goal.unreachable-requires
unreachable-requires c =
    let has = rw (← c.self.view_is) at c.requires in
    false≢true (ap is_some c.in_default.ensures.value ∙ has_name-keys c.self.inside.ids.entries c.args.path.now ∙ has)

pub returns-clause-ids : goal.returns-clause-ids
returns-clause-ids c =
    let has = rw (← c.self.view_is) at c.requires in
    let holds = c.get_mut.follows.holds c.args.id in
    let updates = (holds.3 (has_name-keys c.self.inside.ids.entries c.args.path.now ∙ has)).0 in
    rw (← c.self.view_is) (λ other. id_kept-updated _ _ c.args.path.now other c.args.id (updates other))
