-- The work of indexing a file, and when index data still are of the world.
use Rattle.std.specs.Prelude.{ℕ, ◌≡◌, List, Option, None, IfSome, option_map, if◌then◌else◌}
use Rattle.std.specs.Option.{option_and_then}
use Rattle.dumb_mode.specs.declared.kind.FileKind.{FileKind}
use Rattle.dumb_mode.specs.Filter.{kind_of}
use Rattle.write_history.specs.World.{World, File, file_of, is_unready}

-- a file with the kind and the content that it has at a stamp
pub record Task : Type 0 where
  pub file : ℕ
  pub kind : FileKind
  pub stamp : ℕ
  pub content : List ℕ

-- the work of a file of a kind
abbrev pub task_of : ℕ → File → FileKind → Task
task_of id file kind = record { file = id; kind = kind; stamp = file.stamp; content = file.content }

-- the work of a file, where it has a kind
abbrev pub work_of : ℕ → File → Option Task
work_of id file = option_map (task_of id file) (kind_of file.path)

-- the work of an unready file
abbrev pub task_with_id : World → ℕ → Option Task
task_with_id world id = if is_unready (file_of world id) then option_and_then (work_of id) (file_of world id) else None

-- where the file is live at the stamp, it has the content, and no other kind
pub record IsOfWorld (world : World) (task : Task) : Type 0 where
  pub content : IfSome (file_of world task.file) (λ f. f.stamp ≡ task.stamp → f.content ≡ task.content)
  pub kind : IfSome (file_of world task.file) (λ f. f.stamp ≡ task.stamp → IfSome (kind_of f.path) (λ kind. kind ≡ task.kind))
