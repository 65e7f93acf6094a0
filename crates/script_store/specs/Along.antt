-- Where changes, commands and lines lead from a world, said of every history that leads there, whoever made its entries and for which line.
use Rattle.std.specs.Prelude.{ℕ, ◌≡◌, List, ◌++◌}
use Rattle.write_history.specs.declared.change.Change.{Change}
use Rattle.write_history.specs.declared.entry.Entry.{Entry}
use Rattle.write_history.specs.World.{World}
use Rattle.write_history.specs.Fold.{fold}
use Rattle.write_history.specs.Settle.{settled}
use Rattle.write_history.specs.Serial.{changes_step}
use Rattle.script_lang.specs.declared.command.Command.{Command}
use Rattle.script_lang.specs.declared.line.Line.{Line}
use Rattle.transcripts.specs.declared.loaded.Loaded.{Loaded}
use Rattle.transcripts.specs.Serial.{RunState, step_of, done_from, lanes_from}

-- changes that go in together, or not at all, lead from one world to another
pub record HasEntered (changes : List Change) (world after : World) : Type 0 where
  pub is : (history : List Entry) (seat line : ℕ) → fold history ≡ world → after ≡ fold (history ++ (changes_step history seat line changes).added)

-- a settle does
pub record HasSettled (world after : World) : Type 0 where
  pub is : (history : List Entry) (seat line : ℕ) → fold history ≡ world → after ≡ fold (history ++ (settled history seat line).added)

-- a command does, for which this was read
pub record HasGone (load : Loaded) (command : Command) (world after : World) : Type 0 where
  pub is : (history : List Entry) (seat line : ℕ) → fold history ≡ world → after ≡ fold (history ++ (step_of load history seat line command).added)

-- the lines of a section do, of each of which this was read
pub record HasGoneAlong (lines : List Line) (loads : List Loaded) (world after : World) : Type 0 where
  pub is : (done : RunState) (seat : ℕ) → fold done.history ≡ world → after ≡ fold (done_from seat done lines loads).history

-- lanes do, one after another
pub record HasGoneLanes (lanes : List (List Line)) (world after : World) : Type 0 where
  pub is : (done : RunState) (seat : ℕ) → fold done.history ≡ world → after ≡ fold (lanes_from seat done lanes).history
