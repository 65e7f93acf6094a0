-- Index data made after a part of a history are of the world of all of it.
use Rattle.std.proofs.Common.{◌≡◌, ℕ, List, ◌++◌, Some, sym, subst}
use Rattle.list_laws.specs.Prefixes.{IsPrefix}
use Rattle.write_history.specs.declared.entry.Entry.{Entry}
use Rattle.write_history.specs.Fold.{fold, IsLegal}
use Rattle.ide_world.specs.Task.{Task, task_with_id, IsOfWorld}
use Rattle.ide_world.specs.declared.data.Made.{Made}

-- what the law says of the work of a file
abbrev pub WorkStays : Type 0
WorkStays = (earlier : List Entry) (later : List Entry) (id : ℕ) (task : Task) → IsLegal (earlier ++ later) → task_with_id (fold earlier) id ≡ Some task
    → IsOfWorld (fold (earlier ++ later)) task

-- so it is for any longer history
pub work_stays : WorkStays → (earlier whole : List Entry) (id : ℕ) (task : Task) → IsPrefix earlier whole → IsLegal whole
    → task_with_id (fold earlier) id ≡ Some task → IsOfWorld (fold whole) task
work_stays law earlier whole id task front legal work =
    subst (λ (entries : List Entry). IsOfWorld (fold entries) task) (sym front.1) (law earlier front.0 id task (subst IsLegal front.1 legal) work)

-- the work of a file whose index data were made
abbrev pub IsWorkOf : List Entry → ℕ → Made → Type 0
IsWorkOf entries file made = task_with_id (fold entries) file ≡ Some (record { file = made.file; kind = made.kind; stamp = made.stamp; content = made.text })
