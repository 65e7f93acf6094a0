-- What number 0 does and learns while it is alone, and in a round.
use Rattle.std.specs.Prelude.{ℕ, ◌+◌, ◌<◌, ◌≤◌, ◌≡◌, false, List, ◌++◌, length, All}
use Rattle.action_lock.specs.declared.view.View.{View}
use Rattle.action_lock.specs.Passes.{IsLast}
use Rattle.action_lock.specs.Steps.{KnowsItsLists}
use Rattle.write_history.specs.declared.entry.Entry.{Entry}
use Rattle.write_history.specs.Effect.{max_entries}
use Rattle.script_lang.specs.declared.line.Line.{Line}
use Rattle.transcripts.specs.Worked.{Worked}
use Rattle.transcripts.specs.declared.loaded.Loaded.{Loaded}
use Rattle.transcripts.specs.declared.record.Record.{Record}
use Rattle.transcripts.specs.Fits.{Progress, progress_at, SectionFits, LanesFit, WorkersFit, run_beside}
use Rattle.playing.specs.Done.{progress_of}
use Rattle.playing.specs.declared.outcomes.Outcomes.{Outcomes}

-- the view is that of number 0, every other number that was given was met, and it knows whose entries it has seen
pub record IsAlone (v : View Entry) : Type 0 where
  pub last : IsLast v
  pub knows : KnowsItsLists (λ (e : Entry). e.seat) v

-- Number 0 did the lines while it was alone: the history grew by what it made, and the records, put behind others, fit it
pub record HasDoneAlone (lines : List Line) (loads : List Loaded) (v w : View Entry) (old new : List Record) : Type 0 where
  pub own : List Entry
  pub records : List Record
  pub high : Progress
  pub seen : w.seen ≡ v.seen ++ own
  pub added : new ≡ old ++ records
  pub fits : SectionFits false w.seen 0 (progress_of v) lines loads records own high

-- the seat is one of so many, from this one on
pub record IsSeatFrom (first count seat : ℕ) : Type 0 where
  pub from : first ≤ seat
  pub to : seat < first + count

-- A round was played: the history grew by what its lanes and workers made, and their answers, put behind others, fit it
pub record HasPlayed (lanes : List (List Line)) (workers : ℕ) (v w : View Entry) (old new : Outcomes) : Type 0 where
  pub middle : List Entry
  pub records : List Record
  pub worked : List Worked
  pub seen : w.seen ≡ v.seen ++ middle
  pub seats : All (λ (e : Entry). IsSeatFrom v.drawn (length lanes + workers) e.seat) middle
  pub records_are : new.records ≡ old.records ++ records
  pub workers_are : new.workers.items ≡ old.workers.items ++ worked
  pub count : length worked ≡ workers
  pub lanes_fit : LanesFit (run_beside (length lanes) workers) w.seen (progress_at (length v.seen)) v.drawn lanes middle records
  pub workers_fit : length w.seen ≤ max_entries → WorkersFit w.seen (length v.seen) (v.drawn + length lanes) middle worked
