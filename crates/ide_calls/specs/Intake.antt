-- The intake of a file's index data, as it is judged and as it is made.
use Rattle.std.specs.Prelude.{ℕ, ◌≡◌, ◌≢◌, List, [], ◌∷◌, ◌++◌, length, Option, Some, None}
use Rattle.action_lock.specs.declared.view.View.{View}
use Rattle.write_history.specs.declared.change.Change.TheVariants.{Intake}
use Rattle.write_history.specs.declared.entry.Entry.{Entry}
use Rattle.write_history.specs.World.{World, file_of}
use Rattle.write_history.specs.Effect.{max_entries}
use Rattle.write_history.specs.Fold.{fold}
use Rattle.ide_world.specs.declared.data.Made.{Made}
use Rattle.ide_world.specs.Task.{Task}
use Rattle.ide_world.specs.Ready.{IsReadyFor, Makes}
use Rattle.ide_calls.specs.Made.{HasMade}
use Rattle.ide_calls.specs.declared.step.Stepped.{Stepped}
use Rattle.ide_world.specs.declared.step.Step.{Step}
use Rattle.ide_calls.specs.declared.judge.Judged.{Judged}
use Rattle.ide_calls.specs.declared.judge.Judged.TheVariants.{Gone, Stale, Full, Prepared}
use Rattle.ide_calls.specs.declared.first_read.FirstRead.{FirstRead}
use Rattle.ide_calls.specs.Choice.{IsChoice}
use Rattle.ide_calls.specs.Step.{IsLiveAt, IsAnswer}
use Rattle.ide_calls.specs.Reads.{HasReadOnce}

-- how many entries led to a world, and the job of the file that is to be indexed in it
pub record IsFirstRead (world : World) (seat : ℕ) (hint : Option ℕ) (look : FirstRead) : Type 0 where
  pub whole : look.at ≡ world.entries
  pub choice : IsChoice world seat hint look.job

-- the first read of a step of the pass with this number
pub record HasReadFirst (seat : ℕ) (hint : Option ℕ) (v w : View Entry) (look : FirstRead) : Type 0 where
  pub read : HasReadOnce v w
  pub whole : look.at ≡ length w.seen
  pub choice : IsChoice (fold w.seen) seat hint look.job

-- the work for which data were made
abbrev pub task_of_made : Made → Task
task_of_made made = record { file = made.file; kind = made.kind; stamp = made.stamp; content = made.text }

-- the intake of data of a file that were made at a stamp may go in, behind so many entries
pub record IsPreparedAt (world : World) (file stamp len : ℕ) (steps : List Step) : Type 0 where
  pub live : IsLiveAt world file stamp
  pub whole : len ≡ world.entries
  pub ready : IsReadyFor world steps
  pub makes : Makes world steps (Intake file stamp ∷ [])

-- what may be done in a world with data of a file that were made at a stamp
abbrev pub IsJudged : World → (file stamp : ℕ) → Judged → Type 0
IsJudged world file stamp Gone = file_of world file ≡ None
IsJudged world file stamp (Stale present) = IsLiveAt world file present × (present ≢ stamp)
IsJudged world file stamp (Full len) = IsLiveAt world file stamp × (len ≡ world.entries) × (len ≡ max_entries)
IsJudged world file stamp (Prepared len steps) = IsPreparedAt world file stamp len steps

-- a read under the intent, and what may be done by it
pub record HasJudged (file stamp : ℕ) (v w : View Entry) (judged : Judged) : Type 0 where
  pub read : HasReadOnce v w
  pub entries : (fold w.seen).entries ≡ length w.seen
  pub judged_so : IsJudged (fold w.seen) file stamp judged

-- one read found the history `last`, the entries `own` were made behind it, and this is the answer
pub record HasAnswered (seat file stamp : ℕ) (v w : View Entry) (step : Stepped) : Type 0 where
  pub last : List Entry
  pub own : List Entry
  pub reads : w.reads ≡ v.reads ++ length last ∷ []
  pub made : HasMade v w last own
  pub answer : IsAnswer seat file stamp last own step

-- the same of a pass with whatever number it has
pub record IsAnsweredBy (file stamp : ℕ) (v w : View Entry) (step : Stepped) : Type 0 where
  pub seat : ℕ
  pub number : v.number ≡ Some seat
  pub answered : HasAnswered seat file stamp v w step
