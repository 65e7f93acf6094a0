use Rattle.ide_world.proofs.Words.{◌≡◌, drop, Room}
use Rattle.ide_world.specs.Sweep.{SweepsAll}
use Rattle.ide_world.proofs.state.State.sweep_all.Given as goal

-- the world stays, and what sweeps the rest from here on sweeps all from the start
abbrev pub invariant-loop-taken : goal.invariant-loop-taken
invariant-loop-taken l = record {
  world : l.self.world ≡ l.fn.self.world;
  room : (end : Room) → SweepsAll (drop l.taken-index l.gone) l.self.room end → SweepsAll l.gone l.fn.self.room end;
}
