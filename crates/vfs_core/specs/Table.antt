-- The two tables of files: the rows, and the ids by paths.
use Rattle.std.specs.Prelude.{ℕ, List, length, filter, Option, None, is_some, unwrap_or, if◌then◌else◌, Some}
use Rattle.std.specs.Map.{lookup}
use Rattle.std.specs.Str.{bytes_eq}
use Rattle.vfs_core.specs.declared.row.FileRow.{FileRow}
use Rattle.vfs_core.specs.Row.{has_path}

-- the rows, and how many have room
pub record Table : Type 0 where
  pub rows : List (Option FileRow)
  pub capacity : ℕ

-- how many of the rows are those of live files
abbrev pub live_count : List (Option FileRow) → ℕ
live_count rows = length (filter is_some rows)

-- the id that is kept for a path; a path that has a place and no id isn't told from one without a place
abbrev pub id_kept : List ℕ → List (List ℕ × Option ℕ) → Option ℕ
id_kept path entries = unwrap_or (lookup (bytes_eq path) entries) None

-- the id that is kept for a path after a row took the place of another that had this id
abbrev pub id_after : ℕ → Option FileRow → Option FileRow → List ℕ → Option ℕ → Option ℕ
id_after id old new path kept = if has_path path new then Some id else (if has_path path old then None else kept)
