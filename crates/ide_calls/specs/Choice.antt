-- Which file is indexed next.
use Rattle.std.specs.Prelude.{ℕ, ◌≡◌, ◌+◌, ◌-◌, ◌*◌, ◌/◌, ◌%◌, length, Option, Some, None, if◌then◌else◌}
use Rattle.std.specs.Option.{option_map_or}
use Rattle.ide_world.specs.declared.data.Job.{Job}
use Rattle.ide_world.specs.Task.{Task, task_with_id}
use Rattle.ide_world.specs.Unready.{first_unready_from}
use Rattle.write_history.specs.World.{World, file_of, is_unready, lowest_unready}

-- The offset among so many ids at which a worker with this number begins to look behind a history of this length.
-- 40503 is 65536 over the golden ratio, so the offsets for successive lengths lie evenly among the ids, each far from those just
-- before it; for the same length the offsets of workers lie beside each other
abbrev pub probe_offset : (seat len ids : ℕ) → ℕ
probe_offset seat len ids = (len * 40503 % 65536 * ids / 65536 + seat) % ids

-- the id at that offset among those from this one up to the greatest of the world
abbrev pub probe_from : World → (seat lowest : ℕ) → ℕ
probe_from world seat lowest = lowest + probe_offset seat world.entries (length world.files - lowest + 1)

-- the same among those from the lowest unready file's on
abbrev pub probe_in : World → (seat : ℕ) → ℕ
probe_in world seat = option_map_or (probe_from world seat) (lowest_unready world) 0

-- the hinted file where it is unready, else the first unready one from where this worker begins to look
abbrev pub file_to_index : World → (seat : ℕ) → Option ℕ → Option ℕ
file_to_index world seat None = first_unready_from world (probe_in world seat)
file_to_index world seat (Some id) = if is_unready (file_of world id) then Some id else first_unready_from world (probe_in world seat)

-- the work of that file
pub record IsWork (world : World) (seat : ℕ) (hint : Option ℕ) (task : Task) : Type 0 where
  pub chosen : file_to_index world seat hint ≡ Some task.file
  pub task_of_file : task_with_id world task.file ≡ Some task

-- what a job says
abbrev pub task_of_job : Job → Task
task_of_job job = record { file = job.file; kind = job.kind; stamp = job.stamp; content = job.text }

-- the job of that file, or none where no file is unready
abbrev pub IsChoice : World → (seat : ℕ) → Option ℕ → Option Job → Type 0
IsChoice world seat hint None = lowest_unready world ≡ None
IsChoice world seat hint (Some job) = IsWork world seat hint (task_of_job job)
