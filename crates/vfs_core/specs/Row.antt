-- Files by their ids: the one with the id n stands at the place n - 1, and of one that is no more its place alone.
use Rattle.std.specs.Prelude.{ℕ, suc, ◌<◌, Bool, false, List, Option, Some, None, option_map, unwrap_or, position, bytes_eq}
use Rattle.std.specs.Option.{option_map_or, option_and_then}
pub use Rattle.list_laws.specs.Rows.{row_in, put_at, with_row}
use Rattle.vfs_core.specs.declared.row.FileRow.{FileRow}

-- whether a file is live and has this path
abbrev pub has_path : List ℕ → Option FileRow → Bool
has_path path row = option_map_or (λ r. bytes_eq r.path path) row false

-- the id of the first live file with a path
abbrev pub id_in : List (Option FileRow) → List ℕ → Option ℕ
id_in rows path = option_map suc (position (has_path path) rows)

-- the stamp of a row, or 0
abbrev pub stamp_of : Option FileRow → ℕ
stamp_of row = option_map_or (λ r. r.stamp) row 0

-- the stamp at which a row was indexed, or 0
abbrev pub indexed_of : Option FileRow → ℕ
indexed_of row = unwrap_or (option_and_then (λ r. r.indexed) row) 0

-- a row has stamps that were drawn before this one
pub record IsStamped (next : ℕ) (row : Option FileRow) : Type 0 where
  pub stamp : stamp_of row < next
  pub indexed : indexed_of row < next

-- a file as it is made: not indexed
abbrev pub new_row : List ℕ → List ℕ → ℕ → FileRow
new_row path content stamp = record { path = path; content = content; stamp = stamp; indexed = None }

-- a file with other content, at a stamp
abbrev pub rewritten : List ℕ → ℕ → FileRow → FileRow
rewritten content stamp row = record { path = row.path; content = content; stamp = stamp; indexed = row.indexed }

-- a file with another path, at a stamp
abbrev pub renamed : List ℕ → ℕ → FileRow → FileRow
renamed path stamp row = record { path = path; content = row.content; stamp = stamp; indexed = row.indexed }

-- a file that counts as indexed at its stamp
abbrev pub indexed_now : FileRow → FileRow
indexed_now row = record { path = row.path; content = row.content; stamp = row.stamp; indexed = Some row.stamp }
