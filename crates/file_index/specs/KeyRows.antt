-- Rows of a key and a value, and their order.
use Rattle.std.specs.Prelude.{ℕ, Bool, if◌then◌else◌, List, [], ◌∷◌, map, filter}
use Rattle.std.specs.List.{list_any}
use Rattle.std.specs.declared.cmp.Ordering.{Ordering}
use Rattle.std.specs.Ordering.{nat_cmp, is_lt, ordering_then}
use Rattle.std.specs.List.Sorted.{IsStrictlySortedBy}

module _ {K V : Type 0} where
  -- Rows go by their keys, and rows of one key by the places of their values.
  abbrev pub row_cmp : (K → K → Ordering) → (V → ℕ) → K × V → K × V → Ordering
  row_cmp key_cmp rank_of a b = ordering_then (key_cmp a.0 b.0) (nat_cmp (rank_of a.1) (rank_of b.1))

  -- Rows are in order where each is below those after it; so none is there twice.
  abbrev pub AreInOrder : (K → K → Ordering) → (V → ℕ) → List (K × V) → Type 0
  AreInOrder key_cmp rank_of rows = IsStrictlySortedBy (row_cmp key_cmp rank_of) rows

  -- the rows with this key
  abbrev pub rows_with : (K → K → Bool) → K → List (K × V) → List (K × V)
  rows_with key_eq key rows = filter (λ row. key_eq key row.0) rows

  -- whether a row has this key
  abbrev pub has_key : (K → K → Bool) → K → List (K × V) → Bool
  has_key key_eq key rows = list_any (λ row. key_eq key row.0) rows

  -- the values under this key
  abbrev pub values_with : (K → K → Bool) → K → List (K × V) → List V
  values_with key_eq key rows = map (λ row. row.1) (rows_with key_eq key rows)

  -- the rows with one more, before the first whose key isn't lower
  abbrev pub with_row : (K → K → Ordering) → K × V → List (K × V) → List (K × V)
  with_row key_cmp row [] = row ∷ []
  with_row key_cmp row (r ∷ rs) = if is_lt (key_cmp r.0 row.0) then r ∷ with_row key_cmp row rs else row ∷ r ∷ rs

  -- the rows by their keys, and those of one key as they came
  abbrev pub by_keys : (K → K → Ordering) → List (K × V) → List (K × V)
  by_keys key_cmp [] = []
  by_keys key_cmp (r ∷ rs) = with_row key_cmp r (by_keys key_cmp rs)
