-- What contracts see of a state.
use Rattle.std.specs.Prelude.{List}
use Rattle.write_history.specs.World.{World}
use Rattle.ide_world.specs.declared.step.Step.{Step}
use Rattle.ide_world.specs.Room.{Room, HasRoomIn}

-- the world that a state stands for, and its room; of this only `HasRoom` speaks, and the walks of the index data in it
pub record StateView : Type 0 where
  pub world : World
  pub room : Room

-- there is room for steps, so that they take no memory
pub record HasRoom (held : StateView) (steps : List Step) : Type 0 where
  pub all : HasRoomIn held.room steps
