use Rattle.vfs_core.proofs.Words.{◌∙◌, arith, nat_list_eq_equiv}
use Rattle.vfs_core.proofs.KeptLemmas.{kept_first}
use Rattle.vfs_core.proofs.files.Files.sweep.Goals as goal

pub returns-clause-gone : goal.returns-clause-gone
returns-clause-gone c = rw (← c.self.view_is) (λ free has.
    let path = c.args.path.now in
    let none = kept_first c.self.inside.rows.rows path _ (c.self.invariant.found path) ∙ free in
    let places = rw (nat_list_eq_equiv.refl path, none) at (c.sweep.ensures.places path) in
    grind (arith, places, has))
