-- Index data that a settle has made ahead of their turn.
use Rattle.std.specs.Prelude.{option_map, option_to_list, ℕ, ◌≡◌, List, ◌++◌, Option, Some, map}
use Rattle.std.specs.List.{All, flat_map}
use Rattle.write_history.specs.declared.entry.Entry.{Entry}
use Rattle.write_history.specs.World.{World}
use Rattle.write_history.specs.Fold.{fold, IsLegal}
use Rattle.ide_world.specs.declared.data.Made.{Made}
use Rattle.ide_world.specs.Task.{Task, task_with_id, IsOfWorld}
use Rattle.ide_calls.specs.Choice.{task_of_job}
use Rattle.ide_calls.specs.Intake.{task_of_made}
use Rattle.ide_calls.specs.declared.making.Making.{Making}
use Rattle.ide_calls.specs.declared.ahead.Ahead.TheInside.{Inside}

-- the work that a thread does
abbrev pub tasks_of : Making → List Task
tasks_of making = map task_of_job making.thread.promise.jobs.value.items

-- the work of which data are made ahead: what is done, then what threads do, in order
abbrev pub tasks_ahead : Inside → List Task
tasks_ahead ahead = map task_of_made ahead.made.items ++ flat_map tasks_of ahead.makings.items

-- the work is that of a file which is unready in the world
pub record IsTask (world : World) (task : Task) : Type 0 where
  pub id : ℕ
  pub work : task_with_id world id ≡ Some task

-- work of unready files of the world was added
pub record HasBegun (world : World) (old new : List Task) : Type 0 where
  pub more : List Task
  pub unready : All (IsTask world) more
  pub after : new ≡ old ++ more

-- the first of the work was taken out, but for some before it that was lost, or none was
pub record HasTakenFirst (old new : List Task) (made : Option Made) : Type 0 where
  pub lost : List Task
  pub before : old ≡ lost ++ option_to_list (option_map task_of_made made) ++ new

-- the first of the threads was waited for: what it has done is given or lost
pub record HasJoined (old new : List Making) (done : List Task) : Type 0 where
  pub lost : List Task
  pub before : flat_map tasks_of old ≡ lost ++ done ++ flat_map tasks_of new

-- work was taken out from the front, and work of unready files of the world was added
pub record GoesOnAhead (world : World) (old new : List Task) : Type 0 where
  pub gone : List Task
  pub kept : List Task
  pub more : List Task
  pub before : old ≡ gone ++ kept
  pub unready : All (IsTask world) more
  pub after : new ≡ kept ++ more

-- whatever entries come behind these, data that were made for the work may go in where the file is at its stamp
abbrev pub StaysOfWorld : List Entry → Task → Type 0
StaysOfWorld seen task = (later : List Entry) → IsLegal (seen ++ later) → IsOfWorld (fold (seen ++ later)) task
