-- What a step of indexing answers.
use Rattle.std.specs.Prelude.{ℕ, ◌≡◌, ◌≢◌, ◌+◌, List, [], ◌∷◌, ◌++◌, length, Option, Some, None, true}
use Rattle.list_laws.specs.Prefixes.{IsPrefix}
use Rattle.action_lock.specs.declared.view.View.{View}
use Rattle.write_history.specs.declared.change.Change.TheVariants.{Intake}
use Rattle.write_history.specs.declared.entry.Entry.{Entry}
use Rattle.write_history.specs.World.{World, File, file_of, is_unready, lowest_unready}
use Rattle.write_history.specs.Effect.{stamp_of, max_entries}
use Rattle.write_history.specs.Fold.{fold}
use Rattle.ide_calls.specs.Made.{HasMade, HasFound}
use Rattle.write_history.specs.Settle.{entry_of}
use Rattle.ide_calls.specs.declared.step.Stepped.{Stepped}
use Rattle.ide_calls.specs.declared.step.Stepped.TheVariants.{Idle, Gone, Stale, Refused, Taken}
use Rattle.ide_calls.specs.Choice.{file_to_index}

-- the one read of the call found a history of this length, after which no file is unready
pub record IsIdle (v w : View Entry) (len : ℕ) : Type 0 where
  pub found : HasFound v w
  pub whole : len ≡ length w.seen
  pub reads : w.reads ≡ v.reads ++ len ∷ []
  pub smart : lowest_unready (fold w.seen) ≡ None

-- the file with an id is live, at this stamp
pub record IsLiveAt (world : World) (id stamp : ℕ) : Type 0 where
  pub file : File
  pub live : file_of world id ≡ Some file
  pub stamped : file.stamp ≡ stamp

-- What is answered of a file whose data were made at a stamp, where the last read of the call found the history `last` and the
-- pass with the number `seat` then made the entries `own`
abbrev pub IsAnswer : (seat file stamp : ℕ) → (last own : List Entry) → Stepped → Type 0
IsAnswer seat file stamp last own (Idle len) = ⊥
IsAnswer seat file stamp last own (Gone id) = (id ≡ file) × (own ≡ []) × (file_of (fold last) file ≡ None)
IsAnswer seat file stamp last own (Stale id made present) =
    (id ≡ file) × (made ≡ stamp) × (own ≡ []) × IsLiveAt (fold last) file present × (present ≢ stamp)
IsAnswer seat file stamp last own (Refused len) = (len ≡ length last) × (len ≡ max_entries) × (own ≡ []) × IsLiveAt (fold last) file stamp
IsAnswer seat file stamp last own (Taken place) =
    (place ≡ length last + 1) × (own ≡ entry_of seat 0 (Intake file stamp ∷ []) ∷ []) × IsLiveAt (fold last) file stamp

-- The call read twice. At the first read the file was the one to index, unready and at this stamp; the answer is of that file
-- at the second
pub record HasTried (hint : Option ℕ) (v w : View Entry) (step : Stepped) : Type 0 where
  pub seat : ℕ
  pub number : v.number ≡ Some seat
  pub file : ℕ
  pub stamp : ℕ
  pub first : List Entry
  pub last : List Entry
  pub own : List Entry
  pub known : IsPrefix v.seen first
  pub longer : IsPrefix first last
  pub reads : w.reads ≡ v.reads ++ length first ∷ length last ∷ []
  pub chosen : file_to_index (fold first) seat hint ≡ Some file
  pub unready : is_unready (file_of (fold first) file) ≡ true
  pub stamped : stamp_of (file_of (fold first) file) ≡ stamp
  pub made : HasMade v w last own
  pub answer : IsAnswer seat file stamp last own step

-- what a step leaves of the view, by its answer
abbrev pub HasStepped : Option ℕ → View Entry → View Entry → Stepped → Type 0
HasStepped hint v w (Idle len) = IsIdle v w len
HasStepped hint v w step = HasTried hint v w step
