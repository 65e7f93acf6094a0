-- The rows of all files.
use Rattle.std.specs.Prelude.{ℕ, Bool, true, ◌≡◌, ◌==◌, ◌&&◌, false, not, nat_lt, List, [], ◌++◌, length, map, filter}
use Rattle.std.specs.Option.{unwrap_or, is_some}
use Rattle.std.specs.List.{flat_map}
use Rattle.std.specs.Ordering.{nat_cmp}
use Rattle.std.specs.Map.{lookup}
use Rattle.std.specs.BTreeMap.{is_at}
use Rattle.file_index.specs.KeyRows.{has_key}
use Rattle.file_index.specs.Places.{is_placed}

-- what a table holds: the rows of each file, by rising ids, and the room that was made beside them
pub record Table (K V : Type 0) : Type 0 where
  pub files : List (ℕ × List (K × V))
  pub room : List (K × List ℕ)

module _ {K V : Type 0} where
  -- the rows of one file, each with its id
  abbrev pub rows_in : ℕ → List (K × V) → List (ℕ × (K × V))
  rows_in file rows = map (λ row. (file, row)) rows

  -- the rows of all files, by rising ids, and in a file in the order of the keys, then of the values
  abbrev pub rows_of : List (ℕ × List (K × V)) → List (ℕ × (K × V))
  rows_of files = flat_map (λ entry. rows_in entry.0 entry.1) files

  -- the rows of a table
  abbrev pub rows : Table K V → List (ℕ × (K × V))
  rows table = rows_of table.files

  -- the rows with a file's rows taken out and others put in
  abbrev pub with_rows : ℕ → List (K × V) → List (ℕ × (K × V)) → List (ℕ × (K × V))
  with_rows file new old = filter (λ row. nat_lt row.0 file) old ++ (rows_in file new ++ filter (λ row. nat_lt file row.0) old)

  -- the rows with a file's rows taken out
  abbrev pub without_file : ℕ → List (ℕ × (K × V)) → List (ℕ × (K × V))
  without_file file old = filter (λ row. not (row.0 == file)) old

  -- the rows under a key, each as its file and its value
  abbrev pub rows_at : (K → K → Bool) → K → List (ℕ × (K × V)) → List (ℕ × V)
  rows_at eq key all = map (λ row. (row.0, row.1.1)) (filter (λ row. eq key row.1.0) all)

  -- the rows of a file, or none
  abbrev pub rows_in_file : ℕ → List (ℕ × List (K × V)) → List (K × V)
  rows_in_file file files = unwrap_or (lookup (is_at (nat_cmp file)) files) []

  -- whether the file is known, with rows or without
  abbrev pub is_known : ℕ → List (ℕ × List (K × V)) → Bool
  is_known file files = is_some (lookup (is_at (nat_cmp file)) files)

  -- each file that has a row under a key stands there
  abbrev pub AllPlaced : (K → K → Bool) → List (ℕ × List (K × V)) → List (K × List ℕ) → Type 0
  AllPlaced eq files places = (file : ℕ) (key : K) → has_key eq key (rows_in_file file files) ≡ true → is_placed eq places key file ≡ true

  -- the table has room to give a file these rows
  pub record HasRoom (eq : K → K → Bool) (table : Table K V) (file : ℕ) (new : List (K × V)) : Type 0 where
    pub known : is_known file table.files ≡ true
    pub placed : (key : K) → has_key eq key new ≡ true → is_placed eq table.room key file ≡ true

  -- what had room still has it, but for one file
  abbrev pub KeepsRoomBut : (K → K → Bool) → ℕ → Table K V → Table K V → Type 0
  KeepsRoomBut eq changed old new = (file : ℕ) (given : List (K × V)) → (file == changed) ≡ false → HasRoom eq old file given → HasRoom eq new file given

  -- what had room still has it
  abbrev pub KeepsRoom : (K → K → Bool) → Table K V → Table K V → Type 0
  KeepsRoom eq old new = (file : ℕ) (given : List (K × V)) → HasRoom eq old file given → HasRoom eq new file given

  -- a file gave up its places under the keys of these rows: what was placed still is, but for this file under keys that
  -- one of the rows has and none of the file's own
  abbrev pub GivesUp : (K → K → Bool) → ℕ → List (K × V) → Table K V → Table K V → Type 0
  GivesUp eq file given old new = (key : K) (other : ℕ) → is_placed eq new.room key other
      ≡ (is_placed eq old.room key other && not (other == file && has_key eq key given && not (has_key eq key (rows_in_file file new.files))))

  -- a file that is known has rows
  abbrev pub IsKnownByRows : ℕ → List (ℕ × List (K × V)) → Type 0
  IsKnownByRows file files = is_known file files ≡ not (length (rows_in_file file files) == 0)
