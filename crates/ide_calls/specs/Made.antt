-- What a call of the IDE leaves of a pass's view.
use Rattle.std.specs.Prelude.{ℕ, ◌≡◌, ◌+◌, List, [], ◌∷◌, ◌++◌, length, Some}
use Rattle.list_laws.specs.Prefixes.{IsPrefix}
use Rattle.action_lock.specs.declared.home.Home.{Ghosts}
use Rattle.action_lock.specs.declared.view.View.{View}
use Rattle.action_lock.specs.declared.pass.Pass.{Pass}
use Rattle.action_lock.specs.declared.lock.ActionLock.{ActionLock}
use Rattle.action_lock.specs.Advances.{Advances}
use Rattle.action_lock.specs.Steps.{finished}
use Rattle.action_lock.specs.Passes.{view_of, IsSamePass, IsPassOf}
use Rattle.write_history.specs.declared.entry.Entry.{Entry}
use Rattle.write_history.specs.Fold.{IsLegal}
use Rattle.write_history.specs.Serial.{SerialStep}
use Rattle.ide_calls.specs.declared.home.IdeHome.{IdeHome}
use Rattle.ide_calls.specs.declared.share.IdeShare.{IdeShare}

-- the pass is again one of the lock and at rest, the same one, and has lost nothing of what it knew
pub record Continues {g : Ghosts IdeHome Entry IdeShare} (lock : ActionLock IdeHome Entry IdeShare) (p q : Pass IdeHome Entry IdeShare g) : Type 0 where
  pub rests : IsPassOf lock q
  pub same : IsSamePass p q
  pub advances : Advances (view_of p) (view_of q)

-- nothing was written, while the pass could have
abbrev pub unwritten : View Entry → View Entry
unwritten v = record v { writes = v.writes + 1 }

-- the entry was written
abbrev pub written : Entry → View Entry → View Entry
written entry v = finished entry (unwritten v)

-- one of the reads that the view gained found this history
pub record HasReadOf (v w : View Entry) (before : List Entry) : Type 0 where
  pub earlier : List ℕ
  pub later : List ℕ
  pub gained : IsPrefix v.reads earlier
  pub reads : w.reads ≡ earlier ++ length before ∷ later

-- a read of this call found the history `before`, which begins with all that was seen, and the call made the entries `own` right behind it
pub record HasMade (v w : View Entry) (before own : List Entry) : Type 0 where
  pub advances : Advances v w
  pub known : IsPrefix v.seen before
  pub seen : w.seen ≡ before ++ own
  pub mine : w.mine ≡ v.mine ++ own
  pub legal : IsLegal w.seen
  pub read : HasReadOf v w before

-- The pass has done a step of a serial run, behind `start`, which begins with all that it had seen: what it made is what the step adds there,
-- by the pass's number, and the answer is the step's
pub record IsAnswered {A : Type 0} (step : List Entry → ℕ → SerialStep A) (v w : View Entry) (answer : A) : Type 0 where
  pub start : List Entry
  pub own : List Entry
  pub known : IsPrefix v.seen start
  pub seen : w.seen ≡ start ++ own
  pub mine : w.mine ≡ v.mine ++ own
  pub is : (seat : ℕ) → v.number ≡ Some seat → step start seat ≡ record { added = own; answer = answer }

-- A call has done a step of a serial run behind a history that one of its reads found; its pass has a number, by which the step is the one that
-- was done; and no entry of what is now seen is refused where it stands
pub record IsAnsweredByRead {A : Type 0} (step : List Entry → ℕ → SerialStep A) (v w : View Entry) (answer : A) : Type 0 where
  pub seat : ℕ
  pub number : v.number ≡ Some seat
  pub answered : IsAnswered step v w answer
  pub read : HasReadOf v w answered.start
  pub legal : IsLegal w.seen

-- nothing was made: the answer is of all that is now seen
abbrev pub HasFound : View Entry → View Entry → Type 0
HasFound v w = HasMade v w w.seen []
