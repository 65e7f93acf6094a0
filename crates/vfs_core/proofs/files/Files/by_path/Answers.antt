use Rattle.vfs_core.proofs.Words.{◌∙◌}
use Rattle.vfs_core.proofs.KeptLemmas.{kept_first}
use Rattle.vfs_core.proofs.files.Files.by_path.Goals as goal

pub returns-clause-first : goal.returns-clause-first
returns-clause-first c = rw (← c.self.view_is) (c.get.ensures ∙ kept_first c.self.inside.rows.rows c.args.path.now _ (c.self.invariant.found c.args.path.now))
