-- When steps can be carried out one after another.
use Rattle.std.specs.Prelude.{ℕ, ◌≤◌, ◌+◌, ◌*◌, List, length, map}
use Rattle.ide_world.specs.declared.step.Step.{Step}
use Rattle.ide_world.specs.Lawful.{AreLawfulFrom, AreWide}
use Rattle.ide_world.specs.Room.{HasRoomIn}
use Rattle.ide_world.specs.StateView.{StateView}
use Rattle.ide_world.specs.declared.apply.Removed.{Removed}

-- the steps are lawful, there is room for all that they bring, and each may draw a stamp
pub record IsReady (held : StateView) (steps : List Step) : Type 0 where
  pub lawful : AreLawfulFrom held.world steps
  pub room : HasRoomIn held.room steps
  pub wide : AreWide steps
  pub stamps : held.world.next_stamp + length steps ≤ 64 * held.world.entries + 1

-- the ids of the files of which something went
abbrev pub ids_of_gone : List Removed → List ℕ
ids_of_gone gone = map (λ g. g.id) gone
