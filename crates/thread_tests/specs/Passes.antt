-- What the tests say of passes.
use Rattle.std.specs.Prelude.{ℕ, ◌≡◌, ◌<◌, [], Some}
use Rattle.action_lock.specs.declared.view.View.{View}
use Rattle.shared_ide.specs.IdePass.{IdePass}
use Rattle.shared_ide.specs.declared.shared.SharedIde.{SharedIde}
use Rattle.shared_ide.specs.Passes.{IsIdePassOf, ide_view}

-- it has the same number, has given as many, and has met the same passes
abbrev pub HasKept : {E : Type 0} → View E → View E → Type 0
HasKept v w = (w.number ≡ v.number) × (w.drawn ≡ v.drawn) × (w.ended ≡ v.ended)

-- a pass of the workspace other than the first, which met nobody
pub record IsLane (ide : SharedIde) (pass : IdePass) : Type 0 where
  pub own : IsIdePassOf ide pass
  pub number : ℕ
  pub numbered : (ide_view pass).number ≡ Some number
  pub follows : 0 < number
  pub alone : (ide_view pass).ended ≡ []

-- the same pass, at rest after calls on this workspace
pub record HasActed (ide : SharedIde) (old new : IdePass) : Type 0 where
  pub own : IsIdePassOf ide new
  pub kept : HasKept (ide_view old) (ide_view new)
