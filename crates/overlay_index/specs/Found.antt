-- What a key finds, file after file.
use Rattle.std.specs.Prelude.{ℕ, zero, suc, List, [], ◌++◌, map}
use Rattle.std.specs.Str.{bytes_eq}
use Rattle.file_index.specs.KeyRows.{values_with}

module _ {V : Type 0} where
  -- the values under a name
  abbrev pub values_of : List ℕ → List (List ℕ × V) → List V
  values_of name rows = values_with bytes_eq name rows

  -- the values, each with the id
  abbrev pub with_id : ℕ → List V → List (ℕ × V)
  with_id id values = map (λ value. (id, value)) values

  -- what so many ids from the first on find, each value with its id
  abbrev pub found_from : (ℕ → List V) → ℕ → ℕ → List (ℕ × V)
  found_from look first zero = []
  found_from look first (suc count) = with_id first (look first) ++ found_from look (suc first) count

  -- what the ids from 1 to the last find
  abbrev pub found_to : (ℕ → List V) → ℕ → List (ℕ × V)
  found_to look last = found_from look 1 last
