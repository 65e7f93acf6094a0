-- Rows by their ids: the one with the id n stands at the place n - 1, and of one that is no more its place alone.
use Rattle.std.specs.Prelude.{ℕ, zero, suc, Bool, if◌then◌else◌, List, [], ◌∷◌, Option, None, slice_index_or}

-- the row with an id, where it is live; no row has the id 0
abbrev pub row_in : {A : Type 0} → List (Option A) → ℕ → Option A
row_in rows id = slice_index_or (None ∷ rows) id None

-- the rows with another at a place: one behind the last makes the list longer, and any other place past the end
-- changes nothing
abbrev pub put_at : {A : Type 0} → ℕ → Option A → List (Option A) → List (Option A)
put_at zero row [] = row ∷ []
put_at zero row (other ∷ rows) = row ∷ rows
put_at (suc place) row [] = []
put_at (suc place) row (other ∷ rows) = other ∷ put_at place row rows

-- the rows with another that has this id
abbrev pub with_row : {A : Type 0} → ℕ → Option A → List (Option A) → List (Option A)
with_row zero row rows = rows
with_row (suc place) row rows = put_at place row rows

-- one, where a test holds
abbrev pub one_if : Bool → ℕ
one_if b = if b then 1 else 0
