-- How far sections come in a world, said of every history that leads there.
use Rattle.std.specs.Prelude.{ℕ, ◌≡◌, Bool, List, [], ◌++◌, Result, Ok, Err}
use Rattle.write_history.specs.declared.entry.Entry.{Entry}
use Rattle.write_history.specs.World.{World}
use Rattle.write_history.specs.Fold.{fold}
use Rattle.script_lang.specs.declared.line.Line.{Line}
use Rattle.transcripts.specs.declared.loaded.Loaded.{Loaded}
use Rattle.transcript_check.specs.Section.{Cursor}
use Rattle.transcript_check.specs.declared.stop.LineStop.{LineStop}
use Rattle.transcript_check.specs.declared.stop.SideStop.{SideStop}
use Rattle.transcript_check.specs.Phase.{Reached}
use Rattle.transcript_check.specs.Checked.{Came}
use Rattle.transcript_check.specs.Stops.{serial_from, phase_from}

-- what sections side by side come to is told: the texts of entries that are left, and the world there, or where they stop
abbrev pub IsReachedAs : List Entry → World → Result Reached SideStop → Result (List (List ℕ)) SideStop → Type 0
IsReachedAs before after (Err stop) (Err told) = told ≡ stop
IsReachedAs before after (Err stop) (Ok left) = ⊥
IsReachedAs before after (Ok reached) (Err told) = ⊥
IsReachedAs before after (Ok reached) (Ok left) = (left ≡ reached.left) × (after ≡ fold (before ++ reached.added))

-- sections side by side, with the texts of their records, went from one world to another by the texts of these entries, or stopped
pub record HasReached (beside : Bool) (lanes workers : ℕ) (cursors : List Cursor) (entries : List (List ℕ)) (world after : World)
    (left : Result (List (List ℕ)) SideStop) : Type 0 where
  pub is : (before : List Entry) → fold before ≡ world
      → IsReachedAs before after (phase_from (record { beside = beside; lanes = lanes; workers = workers; before = before }) [] cursors entries) left

-- what a section alone comes to is told: the texts of entries and of records that are left, and the world there, or where it stops
abbrev pub HasComeAs : World → Result Came LineStop → Result (List (List ℕ) × List (List ℕ)) LineStop → Type 0
HasComeAs after (Err stop) (Err told) = told ≡ stop
HasComeAs after (Err stop) (Ok left) = ⊥
HasComeAs after (Ok came) (Err told) = ⊥
HasComeAs after (Ok came) (Ok left) = (left.0 ≡ came.entries) × (left.1 ≡ came.records) × (after ≡ fold came.history)

-- a section alone went from one world to another by these texts, or stopped
pub record HasComeAlone (seat : ℕ) (lines : List Line) (loads : List Loaded) (entries records : List (List ℕ)) (world after : World)
    (left : Result (List (List ℕ) × List (List ℕ)) LineStop) : Type 0 where
  pub is : (history : List Entry) → fold history ≡ world → HasComeAs after (serial_from seat history lines loads entries records) left
