-- One turn of a settle, and what a settle that goes on from a turn leads to.
use Rattle.std.specs.Prelude.{ℕ, ◌≡◌, List, [], ◌∷◌, ◌++◌, length, Option, Some, None, true}
use Rattle.list_laws.specs.Prefixes.{IsPrefix}
use Rattle.action_lock.specs.declared.view.View.{View}
use Rattle.action_lock.specs.Advances.{Advances}
use Rattle.ide_calls.specs.Made.{written}
use Rattle.write_history.specs.declared.change.Change.TheVariants.{Intake}
use Rattle.write_history.specs.declared.entry.Entry.{Entry}
use Rattle.write_history.specs.declared.refusal.Refusal.{Refusal}
use Rattle.write_history.specs.World.{World, file_of, lowest_unready}
use Rattle.write_history.specs.Effect.{stamp_of, max_entries}
use Rattle.write_history.specs.Fold.{fold, list_refusal}
use Rattle.ide_world.specs.Ready.{IsReadyFor, Makes}
use Rattle.ide_world.specs.declared.step.Step.{Step}
use Rattle.ide_world.specs.declared.data.Made.{Made}
use Rattle.ide_world.specs.Task.{IsOfWorld}
use Rattle.ide_calls.specs.Made.{HasMade}
use Rattle.write_history.specs.Settle.{settled, intake_of, intake_entry}
use Rattle.ide_calls.specs.declared.lowest.Lowest.{Lowest}
use Rattle.ide_calls.specs.declared.lowest.Lowest.TheVariants as lowest
use Rattle.ide_calls.specs.declared.settling.SettleTurn.{SettleTurn}
use Rattle.ide_calls.specs.declared.settling.SettleTurn.TheVariants.{Smart, Full, Taken}
use Rattle.ide_calls.specs.declared.settle_refusal.SettleRefusal.{SettleRefusal}
use Rattle.ide_calls.specs.declared.settle_refusal.SettleRefusal.TheVariants.{HistoryFull, OutOfMemory}
use Rattle.write_history.specs.declared.refusal.Refusal.TheVariants as why
use Rattle.ide_calls.specs.Reads.{HasReadOnce}
use Rattle.ide_calls.specs.Intake.{task_of_made}

-- the unready file with the lowest id, which can't be taken in
pub record IsFull (world : World) (len : ℕ) : Type 0 where
  pub id : ℕ
  pub unready : lowest_unready world ≡ Some id
  pub whole : len ≡ world.entries
  pub full : len ≡ max_entries

-- the intake of that file at its stamp, ready to go in
pub record IsPrepared (world : World) (file stamp : ℕ) (steps : List Step) : Type 0 where
  pub unready : lowest_unready world ≡ Some file
  pub stamped : stamp ≡ stamp_of (file_of world file)
  pub ready : IsReadyFor world steps
  pub makes : Makes world steps (Intake file stamp ∷ [])

-- what is to be done in a world for the unready file with the lowest id
abbrev pub IsLowest : World → Lowest → Type 0
IsLowest world (lowest.Nothing len) = (len ≡ world.entries) × (lowest_unready world ≡ None)
IsLowest world (lowest.Full len) = IsFull world len
IsLowest world (lowest.Prepared file stamp steps) = IsPrepared world file stamp steps

-- index data are of the file with this id at its stamp, and of this world
pub record IsMadeOf (world : World) (id : ℕ) (made : Made) : Type 0 where
  pub same_id : made.file ≡ id
  pub same_stamp : made.stamp ≡ stamp_of (file_of world id)
  pub of_world : IsOfWorld world (task_of_made made)

-- a read under the intent, and what is to be done by it
pub record HasFoundLowest (v w : View Entry) (lowest : Lowest) : Type 0 where
  pub read : HasReadOnce v w
  pub entries : (fold w.seen).entries ≡ length w.seen
  pub lowest_so : IsLowest (fold w.seen) lowest

-- a turn that found no unready file
pub record IsSmart (v w : View Entry) (len : ℕ) : Type 0 where
  pub read : HasReadOnce v w
  pub whole : len ≡ length w.seen
  pub smart : lowest_unready (fold w.seen) ≡ None

-- a turn that found a full history, and an unready file
pub record IsEnd (v w : View Entry) (len : ℕ) : Type 0 where
  pub read : HasReadOnce v w
  pub whole : len ≡ length w.seen
  pub full : IsFull (fold w.seen) len

-- a turn that took the unready file with the lowest id in, behind what it had read
pub record HasTaken (seat line : ℕ) (v w : View Entry) : Type 0 where
  pub between : View Entry
  pub read : HasReadOnce v between
  pub id : ℕ
  pub unready : lowest_unready (fold between.seen) ≡ Some id
  pub accepted : list_refusal (fold between.seen) (intake_of (fold between.seen) id) ≡ None
  pub after : w ≡ written (intake_entry between.seen seat line id) between
  pub advances : Advances v w
  pub current : w.current ≡ true

-- what a turn leaves of the view
abbrev pub HasTurned : ℕ → ℕ → View Entry → View Entry → SettleTurn → Type 0
HasTurned seat line v w (Smart len) = IsSmart v w len
HasTurned seat line v w (Full len) = IsEnd v w len
HasTurned seat line v w Taken = HasTaken seat line v w

-- what a settle from here adds was made, and it ends so; where what was seen is current, it adds to that
pub record HasGoneOn (seat line : ℕ) (v w : View Entry) (refused : Option Refusal) : Type 0 where
  pub before : List Entry
  pub still : v.current ≡ true → before ≡ v.seen
  pub made : HasMade v w before (settled before seat line).added
  pub ends : (settled before seat line).refused ≡ refused

-- a part of what a settle from here adds was made
pub record HasGonePartly (seat line : ℕ) (v w : View Entry) : Type 0 where
  pub before : List Entry
  pub own : List Entry
  pub still : v.current ≡ true → before ≡ v.seen
  pub known : IsPrefix v.seen before
  pub seen : w.seen ≡ before ++ own
  pub mine : w.mine ≡ v.mine ++ own
  pub part : IsPrefix own (settled before seat line).added

-- a settle under the intent went through
pub record GoesThrough (seat line : ℕ) (v w : View Entry) (len : ℕ) : Type 0 where
  pub done : HasGoneOn seat line v w None
  pub whole : len ≡ length w.seen
  pub smart : lowest_unready (fold w.seen) ≡ None

-- a settle under the intent filled the history
pub record FillsUp (seat line : ℕ) (v w : View Entry) (len : ℕ) : Type 0 where
  pub done : HasGoneOn seat line v w (Some why.HistoryFull)
  pub whole : len ≡ length w.seen
  pub full : IsFull (fold w.seen) len

-- a settle under the intent didn't go through
abbrev pub Stops : ℕ → ℕ → View Entry → View Entry → SettleRefusal → Type 0
Stops seat line v w (HistoryFull len) = FillsUp seat line v w len
Stops seat line v w OutOfMemory = HasGonePartly seat line v w
