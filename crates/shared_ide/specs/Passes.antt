-- What contracts see of a pass of the shared workspace.
use Rattle.index_workers.specs.declared.pass.IdePass.{IdePass}
use Rattle.index_workers.specs.Passes as workers
use Rattle.shared_ide.specs.declared.shared.SharedIde.{SharedIde}
pub use Rattle.index_workers.specs.Passes.{ide_view, IsSameIdePass}

-- the pass is one of this workspace, and at rest
abbrev pub IsIdePassOf : SharedIde → IdePass → Type 0
IsIdePassOf ide pass = workers.IsIdePassOf ide.lock ide.queue pass

-- the pass is again one of this workspace and at rest, the same one, and has lost nothing of what it knew
abbrev pub Continues : SharedIde → IdePass → IdePass → Type 0
Continues ide p q = workers.Continues ide.lock ide.queue p q
