-- What the program says of passes.
use Rattle.std.specs.Prelude.{◌≡◌}
use Rattle.shared_ide.specs.IdePass.{IdePass}
use Rattle.shared_ide.specs.declared.shared.SharedIde.{SharedIde}
use Rattle.shared_ide.specs.Passes.{IsIdePassOf, ide_view}

-- after calls on this workspace it is at rest there, has the same number, has given as many, and has met the same passes
pub record StaysIn (ide : SharedIde) (old new : IdePass) : Type 0 where
  pub own : IsIdePassOf ide new
  pub number : (ide_view new).number ≡ (ide_view old).number
  pub given : (ide_view new).drawn ≡ (ide_view old).drawn
  pub met : (ide_view new).ended ≡ (ide_view old).ended
