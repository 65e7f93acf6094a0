-- What a change makes of the hints that its pass put.
use Rattle.std.specs.Prelude.{ℕ, ◌≡◌, List, Option, Some, None, Result, Ok, Err}
use Rattle.action_lock.specs.declared.view.View.{View}
use Rattle.write_history.specs.declared.change.Change.{Change}
use Rattle.write_history.specs.declared.entry.Entry.{Entry}
use Rattle.ide_calls.specs.Change.{HasLeft}
use Rattle.job_queue.specs.declared.view.QueueView.{QueueView}
use Rattle.index_workers.specs.Hints.{HasHinted}

-- a hint of the file was put, unless the queue was full; without a file none was put
abbrev pub HintsFor : Option ℕ → QueueView → QueueView → Type 0
HintsFor (Some file) q r = HasHinted file q r
HintsFor None q r = r ≡ q

-- one hint was put, unless the queue was full: of the first of the changed files that the changes left unready; where they left none, none was
pub record HasHintedFirst (w : View Entry) (changes : List Change) (q r : QueueView) : Type 0 where
  pub file : Option ℕ
  pub left : HasLeft w changes file
  pub hint : HintsFor file q r

-- an accepted change puts that hint, and a refused one none
abbrev pub HintsOf : {A E : Type 0} → Result A E → View Entry → List Change → QueueView → QueueView → Type 0
HintsOf (Ok answer) w changes q r = HasHintedFirst w changes q r
HintsOf (Err refusal) w changes q r = r ≡ q
