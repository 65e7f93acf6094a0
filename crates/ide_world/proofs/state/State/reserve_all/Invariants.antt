use Rattle.ide_world.proofs.Words.{◌≡◌, length, take, AllByRecursion}
use Rattle.vfs_core.specs.FilesView.{HasRowRoom}
use Rattle.ide_world.proofs.RoomLemmas.{HasRoomFor}
use Rattle.ide_world.proofs.state.State.reserve_all.Given as goal

-- the world stays, and there is room for the rows of all and for what the steps so far bring
abbrev pub invariant-loop-step : goal.invariant-loop-step
invariant-loop-step l = record {
  world : l.self.world ≡ l.fn.self.world;
  rows : HasRowRoom l.self.room.files (length l.steps);
  each : AllByRecursion (HasRoomFor l.self.room l.steps) (take l.step-index l.steps);
}
