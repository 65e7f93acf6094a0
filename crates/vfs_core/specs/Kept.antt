-- How files are kept: rows in a vector, and beside it a map from paths to ids.
use Rattle.std.specs.Prelude.{ℕ, ◌≡◌, Bool, false, ◌==◌, List, Option}
use Rattle.std.specs.Option.{option_map_or}
use Rattle.std.specs.Map.{keys_of}
use Rattle.vfs_core.specs.declared.files.Files.TheInside.{Inside}
use Rattle.vfs_core.specs.Row.{row_in, has_path, IsStamped}
use Rattle.vfs_core.specs.FilesView.{FilesView}
use Rattle.vfs_core.specs.Table.{id_kept}

-- whether it is this id
abbrev pub is_id : ℕ → Option ℕ → Bool
is_id id kept = option_map_or (λ k. k == id) kept false

-- what contracts see of files
abbrev pub held : Inside → FilesView
held inside = record { rows = inside.rows.rows; next_stamp = inside.next_stamp; capacity = inside.rows.capacity; places = keys_of inside.paths }

-- the map has an id for a path exactly where the row with that id is live and has the path, and no stamp of a row is
-- still to be drawn
pub record IsKept (inside : Inside) : Type 0 where
  pub found : (path : List ℕ) (id : ℕ) → is_id id (id_kept path inside.paths) ≡ has_path path (row_in inside.rows.rows id)
  pub stamped : (id : ℕ) → IsStamped inside.next_stamp (row_in inside.rows.rows id)
