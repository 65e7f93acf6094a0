-- The rows under a key, file by file.
use Rattle.std.specs.Prelude.{◌≡◌, ℕ, Bool, true, List, ◌++◌, map}
use Rattle.std.specs.List.{flat_map}
use Rattle.file_index.specs.KeyRows.{has_key, rows_with}
use Rattle.file_index.specs.Places.{has_id}
use Rattle.file_index.specs.Rows.{rows_in_file}

module _ {K V : Type 0} where
  -- rows of one file, each as the file and its value
  abbrev pub shown : ℕ → List (K × V) → List (ℕ × V)
  shown file rows = map (λ row. (file, row.1)) rows

  -- the rows under the key that these files have, one file after another
  abbrev pub walked : (K → K → Bool) → K → List (ℕ × List (K × V)) → List ℕ → List (ℕ × V)
  walked eq key files ids = flat_map (λ id. shown id (rows_with eq key (rows_in_file id files))) ids

  -- each file with a row under the key is among the ids
  abbrev pub HasAllFiles : (K → K → Bool) → K → List (ℕ × List (K × V)) → List ℕ → Type 0
  HasAllFiles eq key files ids = (file : ℕ) → has_key eq key (rows_in_file file files) ≡ true → has_id file ids ≡ true

  -- the rest of one file's rows, and then those of other files
  abbrev pub left_to_walk : (K → K → Bool) → K → List (ℕ × List (K × V)) → ℕ → List (K × V) → List ℕ → List (ℕ × V)
  left_to_walk eq key files file run ids = shown file run ++ walked eq key files ids
