-- What a worker does.
use Rattle.std.specs.Prelude.{ℕ, ◌≡◌, ◌≢◌, ◌≤◌, Bool, true, false, List, [], ◌∷◌, ◌++◌, length, Option, Some, None, All, AllPairs, ⊤}
use Rattle.action_lock.specs.declared.gate.Point.{Point}
use Rattle.action_lock.specs.declared.gate.Point.TheVariants as point
use Rattle.action_lock.specs.declared.view.View.{View}
use Rattle.action_lock.specs.Advances.{Advances}
use Rattle.write_history.specs.declared.change.Change.TheVariants.{Intake}
use Rattle.write_history.specs.declared.entry.Entry.{Entry}
use Rattle.write_history.specs.World.{lowest_unready}
use Rattle.write_history.specs.Effect.{max_entries}
use Rattle.write_history.specs.Fold.{fold}
use Rattle.write_history.specs.Settle.{entry_of}
use Rattle.ide_calls.specs.declared.step.Stepped.{Stepped}
use Rattle.ide_calls.specs.declared.step.Stepped.TheVariants as step
use Rattle.ide_calls.specs.Step.{HasStepped}
use Rattle.job_queue.specs.declared.hint.Hint.{Hint}
use Rattle.job_queue.specs.declared.view.QueueView.{QueueView}
use Rattle.index_workers.specs.Hints.{HasPopped, IsFirstTried}
use Rattle.index_workers.specs.declared.worked.End.{End}
use Rattle.index_workers.specs.declared.worked.End.TheVariants.{Idle, Refused, Turns}
use Rattle.index_workers.specs.declared.worked.Worked.{Worked}

-- how many steps a worker makes at most
abbrev pub max_turns : ℕ
max_turns = 131072

-- one step: the hint that it took, the file that it tried first, the answer, and what the pass's views are after it
pub record WorkStep : Type 0 where
  pub hint : Option Hint
  pub file : ℕ
  pub answer : Stepped
  pub after : View Entry
  pub queue : QueueView

-- these steps lead from one view to another, and of the queue too: each took a hint, if one was there, and tried that file first
abbrev pub Leads : View Entry → QueueView → List WorkStep → View Entry → QueueView → Type 0
Leads v q [] w r = (w ≡ v) × (r ≡ q)
Leads v q (d ∷ ds) w r =
    HasPopped d.hint q d.queue
    × IsFirstTried d.hint d.file
    × HasStepped (Some d.file) v d.after d.answer
    × Leads d.after d.queue ds w r

-- how many entries a step made
abbrev pub taken_by : Stepped → ℕ
taken_by (step.Taken place) = 1
taken_by answer = 0

-- what a gate may answer at a point
abbrev pub Sayings : Type 1
Sayings = Point → Bool → Type 0

-- a gate may answer anything
abbrev pub any_answer : Sayings
any_answer point answer = ⊤

-- the worker with this number goes on after this answer: never after a refusal, and where nothing was to be done only where the gate may
-- tell it to
abbrev pub GoesOn : Sayings → ℕ → Stepped → Type 0
GoesOn said seat (step.Idle len) = said (point.Idle seat) true
GoesOn said seat (step.Refused len) = ⊥
GoesOn said seat answer = ⊤

-- the worker with this number ends so with this answer: where nothing was to be done only where the gate may tell it to
abbrev pub IsEndOf : Sayings → ℕ → Stepped → End → Type 0
IsEndOf said seat answer (Idle len) = (answer ≡ step.Idle len) × said (point.Idle seat) false
IsEndOf said seat answer (Refused len) = answer ≡ step.Refused len
IsEndOf said seat answer Turns = ⊥

-- the worker went on after each of these steps
abbrev pub WentOn : Sayings → ℕ → List WorkStep → Type 0
WentOn said seat steps = All (λ (d : WorkStep). GoesOn said seat d.answer) steps

-- the steps end with one by which the worker ends so, and it went on after all others
pub record WorkEnds (said : Sayings) (seat : ℕ) (end : End) (steps : List WorkStep) : Type 0 where
  pub before : List WorkStep
  pub last : WorkStep
  pub are : steps ≡ before ++ last ∷ []
  pub ends : IsEndOf said seat last.answer end
  pub going : WentOn said seat before

-- why the worker ended with these steps
abbrev pub EndsBy : Sayings → ℕ → End → List WorkStep → Type 0
EndsBy said seat Turns steps = (length steps ≡ max_turns) × WentOn said seat steps
EndsBy said seat end steps = WorkEnds said seat end steps

-- what holds of what a worker has seen when it ends so
abbrev pub IsAtEnd : End → View Entry → Type 0
IsAtEnd (Idle len) w = (len ≡ length w.seen) × (lowest_unready (fold w.seen) ≡ None)
IsAtEnd (Refused len) w = (len ≡ length w.seen) × (len ≡ max_entries)
IsAtEnd Turns w = ⊤

-- the entry takes a file in at a stamp, made by the worker with this number
pub record IsIntakeBy (seat : ℕ) (e : Entry) : Type 0 where
  pub file : ℕ
  pub stamp : ℕ
  pub is : e ≡ entry_of seat 0 (Intake file stamp ∷ [])

-- no two of the entries have the same changes
abbrev pub AreApart : List Entry → Type 0
AreApart es = AllPairs (λ e later. e.changes ≢ later.changes) es

-- the entry stands in the history
pub record StandsIn (history : List Entry) (e : Entry) : Type 0 where
  pub before : List Entry
  pub behind : List Entry
  pub are : history ≡ before ++ e ∷ behind

-- Steps of the worker with this number led from one view to another, of the lock and of the queue, and made these entries: each takes a file in, no two the same
-- file at the same stamp
pub record HasGone (seat : ℕ) (v w : View Entry) (q r : QueueView) (steps : List WorkStep) (own : List Entry) : Type 0 where
  pub leads : Leads v q steps w r
  pub number : v.number ≡ Some seat
  pub advances : Advances v w
  pub mine : w.mine ≡ v.mine ++ own
  pub intakes : All (IsIntakeBy seat) own
  pub stand : All (StandsIn w.seen) own
  pub apart : AreApart own

-- so many steps were made, after each of which the worker went on, and so many entries
pub record HasGoneOn (said : Sayings) (seat turns taken : ℕ) (v w : View Entry) (q r : QueueView) : Type 0 where
  pub steps : List WorkStep
  pub own : List Entry
  pub gone : HasGone seat v w q r steps own
  pub going : WentOn said seat steps
  pub turns_are : length steps ≡ turns
  pub taken_are : length own ≡ taken
  pub few : taken ≤ turns

-- What a worker did, as it tells, with a gate that may answer so
pub record HasWorked (said : Sayings) (v w : View Entry) (q r : QueueView) (worked : Worked) : Type 0 where
  pub steps : List WorkStep
  pub own : List Entry
  pub gone : HasGone worked.seat v w q r steps own
  pub turns : length steps ≡ worked.turns
  pub taken : length own ≡ worked.taken
  pub ends : EndsBy said worked.seat worked.end steps
  pub at_end : IsAtEnd worked.end w

-- what a worker did, as it tells, whatever its gate says and whatever became of the queue
pub record HasWorkedSo (v w : View Entry) (worked : Worked) : Type 0 where
  pub before : QueueView
  pub after : QueueView
  pub done : HasWorked any_answer v w before after worked

-- What a worker did in which memory ran out: its steps so far stay, and the one after them took a hint, if one was there, and made
-- nothing
pub record HasWorkedInPart (said : Sayings) (v w : View Entry) (q r : QueueView) : Type 0 where
  pub seat : ℕ
  pub turns : ℕ
  pub taken : ℕ
  pub between : View Entry
  pub middle : QueueView
  pub so_far : HasGoneOn said seat turns taken v between q middle
  pub hint : (hint : Option Hint) × HasPopped hint middle r
  pub advances : Advances between w
  pub mine : w.mine ≡ between.mine
