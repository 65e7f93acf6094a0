use Rattle.vfs_core.proofs.PathLemmas.{id_kept-swept, places-swept}
use Rattle.vfs_core.proofs.paths.Paths.sweep.Goals as goal

pub returns-then-is_none-clause-same : goal.returns-then-is_none-clause-same
returns-then-is_none-clause-same c =
    let none = rw (c.get.ensures, ← c.self.view_is) at c.if-is_none.ensures in
    rw (← c.self.view_is) (λ other. id_kept-swept _ _ c.args.path.now other none (c.swap_remove.ensures.updates.0 other))

pub returns-then-is_none-clause-places : goal.returns-then-is_none-clause-places
returns-then-is_none-clause-places c =
    let none = rw (c.get.ensures, ← c.self.view_is) at c.if-is_none.ensures in
    rw (← c.self.view_is) (λ other. places-swept _ _ c.args.path.now other none (c.swap_remove.ensures.updates.0 other))
