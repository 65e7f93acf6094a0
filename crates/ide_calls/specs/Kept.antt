-- What the value under the lock and its shares stand for.
use Rattle.std.specs.Prelude.{◌≡◌, ◌≤◌, List, length}
use Rattle.std.specs.Arc.{arc_value}
use Rattle.write_history.specs.declared.entry.Entry.{Entry}
use Rattle.write_history.specs.World.{World}
use Rattle.write_history.specs.Effect.{max_entries}
use Rattle.write_history.specs.Fold.{fold, IsLegal}
use Rattle.ide_calls.specs.declared.home.IdeHome.TheInside.{Inside}
use Rattle.ide_calls.specs.declared.share.IdeShare.TheInside.{Inside as ShareInside}

-- the entries so far
abbrev pub history_of : Inside → List Entry
history_of inside = inside.history.entries

-- the state is the world that the history makes, no entry of which is refused where it stands, and which isn't too long
pub record StandsForHistory (inside : Inside) : Type 0 where
  pub world : (arc_value inside.kept).state.world ≡ fold inside.history.entries
  pub legal : IsLegal inside.history.entries
  pub bounded : length inside.history.entries ≤ max_entries

-- the world of a share
abbrev pub world_of : ShareInside → World
world_of inside = (arc_value (arc_value inside.block).kept).state.world
