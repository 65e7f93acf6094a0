-- What contracts see of files, and what there is room for.
use Rattle.std.specs.Prelude.{ℕ, ◌≡◌, ◌≤◌, ◌+◌, false, Bool, IsTrue, List, length, Option, None, bytes_eq}
use Rattle.std.specs.List.{list_any}
use Rattle.vfs_core.specs.declared.row.FileRow.{FileRow}
use Rattle.vfs_core.specs.Row.{row_in, id_in, has_path}

-- the rows of all files that were ever made, and the stamp that is drawn next; the other fields are room, and only
-- `HasRowRoom`, `HasPathRoom` and `KeepsRoom` speak of them, and what `sweep` says of the rows
pub record FilesView : Type 0 where
  pub rows : List (Option FileRow)
  pub next_stamp : ℕ
  -- so many rows have room in all
  pub capacity : ℕ
  -- these paths have a place
  pub places : List (List ℕ)

-- the row with an id, where its file is live; no file has the id 0
abbrev pub row_of : FilesView → ℕ → Option FileRow
row_of held id = row_in held.rows id

-- the id of the live file at a path
abbrev pub id_at : FilesView → List ℕ → Option ℕ
id_at held path = id_in held.rows path

-- there is room for so many rows more
abbrev pub HasRowRoom : FilesView → ℕ → Type 0
HasRowRoom held count = length held.rows + count ≤ held.capacity

-- whether a path is among these
abbrev pub has_name : List (List ℕ) → List ℕ → Bool
has_name names path = list_any (bytes_eq path) names

-- there is a place for the id of this path
abbrev pub HasPathRoom : FilesView → List ℕ → Type 0
HasPathRoom held path = IsTrue (has_name held.places path)

-- what had room still has it, but for the rows that were made since
pub record KeepsRoom (old new : FilesView) : Type 0 where
  pub rows : old.capacity ≤ new.capacity
  pub paths : (path : List ℕ) → HasPathRoom old path → HasPathRoom new path

-- the file with an id has the path already, or the path is free and has a place
abbrev pub MayHave : FilesView → ℕ → List ℕ → Type 0
MayHave held id path = has_path path (row_of held id) ≡ false → (id_at held path ≡ None) × HasPathRoom held path
