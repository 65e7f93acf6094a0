-- The steps of a serial run: what each adds to the history behind which it is taken, and its answer.
use Rattle.std.specs.Prelude.{ℕ, ◌+◌, List, [], ◌∷◌, ◌++◌, length, Option, Some, None}
use Rattle.write_history.specs.declared.change.Change.{Change}
use Rattle.write_history.specs.declared.entry.Entry.{Entry}
use Rattle.write_history.specs.declared.refusal.Refusal.{Refusal}
use Rattle.write_history.specs.Fold.{fold, list_refusal, ListRefusal}
use Rattle.write_history.specs.Settle.{entry_of, settled}

-- what a step adds to the history, and its answer
pub record SerialStep (A : Type 0) : Type 0 where
  pub added : List Entry
  pub answer : A

-- An entry is added where none of its changes is refused. The answer is the length of the history then, and the first refused change
abbrev pub step_unless : Option ListRefusal → List Entry → Entry → SerialStep (ℕ × Option ListRefusal)
step_unless None history entry = record { added = entry ∷ []; answer = (length history + 1, None) }
step_unless (Some refusal) history entry = record { added = []; answer = (length history, Some refusal) }

-- changes that the pass with this number makes together for a line
abbrev pub changes_step : List Entry → ℕ → ℕ → List Change → SerialStep (ℕ × Option ListRefusal)
changes_step history seat line changes = step_unless (list_refusal (fold history) changes) history (entry_of seat line changes)

-- A settle by the pass with this number for a line. The answer is the length of the history behind it, and why it ended before every file was
-- ready, if it did
abbrev pub settle_step : List Entry → ℕ → ℕ → SerialStep (ℕ × Option Refusal)
settle_step history seat line = record {
  added = (settled history seat line).added;
  answer = (length (history ++ (settled history seat line).added), (settled history seat line).refused);
}
