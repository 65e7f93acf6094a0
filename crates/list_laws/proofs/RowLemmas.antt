-- Rows by their ids, after a row took the place of another or came behind the last: what stands where, and how many pass a test.
use Rattle.std.proofs.Common.{◌≡◌, ◌≢◌, ℕ, zero, suc, ◌+◌, ◌-◌, ◌<◌, ◌≤◌, Bool, true, false, cond, ltb, ◌==◌, if◌then◌else◌, List, [], ◌∷◌, ◌++◌, length, get_or, set, filter, Option, Some, None, is_some, refl, ap, arith, length-set, get_or-set_same, ext_get_or}
use Rattle.std.proofs.lemmas.Bool.Decides.{nat_tests}
use Rattle.std.proofs.lemmas.List.{length_push, get_or_push, get_or_past}
use Rattle.std.proofs.lemmas.List.Sums.{length-filter, count_by-le-length, sum_by-set, sum_by_push, get_or-le-sum_by}
use Rattle.list_laws.specs.Rows.{row_in, put_at, with_row, one_if}

-- one at most
pub one_if_le : (b : Bool) → one_if b ≤ 1
one_if_le b = grind (arith, nat_tests)

module _ {A : Type 0} where
  -- no more pass than there are
  pub count_le : (test : A → Bool) (xs : List A) → length (filter test xs) ≤ length xs
  count_le test xs = rw (length-filter test xs) (count_by-le-length test xs)

  -- a row in the place of another
  pub put_at-set : (place : ℕ) (row : Option A) (rows : List (Option A)) → place < length rows → put_at place row rows ≡ set rows place row
  put_at-set (suc place) row (other ∷ rows) inside = ap (λ rs. other ∷ rs) (put_at-set place row rows (omega arith))
  put_at-set _ row _ inside = grind arith

  pub with_row-set : (id : ℕ) (row : Option A) (rows : List (Option A)) → 0 < id → id ≤ length rows → with_row id row rows ≡ set rows (id - 1) row
  with_row-set zero row rows above inside = absurd (omega arith)
  with_row-set (suc place) row rows above inside = let before : suc place - 1 ≡ place = omega arith in rw before (put_at-set place row rows (omega arith))

  -- a row behind the last
  pub put_at-push : (place : ℕ) (row : Option A) (rows : List (Option A)) → place ≡ length rows → put_at place row rows ≡ rows ++ row ∷ []
  put_at-push (suc place) row (other ∷ rows) last = ap (λ rs. other ∷ rs) (put_at-push place row rows (omega arith))
  put_at-push _ row _ last = grind arith

  pub with_row-push : (id : ℕ) (row : Option A) (rows : List (Option A)) → id ≡ length rows + 1 → with_row id row rows ≡ rows ++ row ∷ []
  with_row-push zero row rows last = absurd (omega arith)
  with_row-push (suc place) row rows last = put_at-push place row rows (omega arith)

  -- so many rows there are then
  pub length-within : (id : ℕ) (row : Option A) (rows : List (Option A)) → 0 < id → id ≤ length rows → length (with_row id row rows) ≡ length rows
  length-within id row rows above inside = rw (with_row-set id row rows above inside) (length-set rows (id - 1) row)

  pub length-next : (id : ℕ) (row : Option A) (rows : List (Option A)) → id ≡ length rows + 1 → length (with_row id row rows) ≡ length rows + 1
  length-next id row rows last = rw (with_row-push id row rows last) (length_push rows row)

  pub length-with_row : (id : ℕ) (row : Option A) (rows : List (Option A)) → 0 < id → id ≤ length rows + 1
      → length (with_row id row rows) ≡ cond (ltb (length rows) id) id (length rows)
  length-with_row id row rows above within = grind (arith, nat_tests, length-within id row rows above, length-next id row rows)

  -- what has its id, and what has another
  pub row_in-here : (id : ℕ) (row : Option A) (rows : List (Option A)) → 0 < id → id ≤ length rows + 1 → row_in (with_row id row rows) id ≡ row
  row_in-here zero row rows above within = absurd (omega arith)
  row_in-here (suc place) row rows above within = grind (arith, put_at-set place row rows, put_at-push place row rows, get_or-set_same, get_or_push)

  put_at-there : (place : ℕ) (row : Option A) (rows : List (Option A)) (k : ℕ) → k ≢ place → get_or (put_at place row rows) k None ≡ get_or rows k None
  put_at-there zero row [] zero ne = absurd (ne refl)
  put_at-there (suc place) row (other ∷ rows) (suc k) ne = put_at-there place row rows k (λ e. ne (ap suc e))
  put_at-there _ row _ _ ne = grind (arith, ne)

  pub row_in-there : (id : ℕ) (row : Option A) (rows : List (Option A)) (other : ℕ) → other ≢ id → row_in (with_row id row rows) other ≡ row_in rows other
  row_in-there zero row rows other ne = refl
  row_in-there (suc place) row rows other ne = put_at-there (suc place) row (None ∷ rows) other ne

  pub row_in-with_row : (id : ℕ) (row : Option A) (rows : List (Option A)) (other : ℕ) → 0 < id → id ≤ length rows + 1
      → row_in (with_row id row rows) other ≡ (if id == other then row else row_in rows other)
  row_in-with_row id row rows other above within = grind (arith, nat_tests, row_in-here id row rows above within, row_in-there id row rows other)

  -- past the end is none
  pub past_all : (rows : List (Option A)) (place : ℕ) → length rows ≤ place → get_or rows place None ≡ None
  past_all rows place past = get_or_past rows place None past

  -- a live row has an id that was given
  pub live_inside : (rows : List (Option A)) (id : ℕ) → is_some (row_in rows id) ≡ true → (0 < id) × (id ≤ length rows)
  live_inside rows zero live = absurd (cc)
  live_inside rows (suc place) live = (omega arith, grind (arith, get_or_past rows place None, live))

  pub live_is_made : (rows : List (Option A)) (id : ℕ) (row : A) → row_in rows id ≡ Some row → (0 < id) × (id ≤ length rows)
  live_is_made rows id row e = live_inside rows id (ap is_some e)

  -- rows that are the same at each id are the same
  pub same_rows : (rows others : List (Option A)) → length rows ≡ length others → ((id : ℕ) → row_in rows id ≡ row_in others id) → rows ≡ others
  same_rows rows others long each = ext_get_or None rows others long (λ i _. each (suc i))

module _ {A : Type 0} (test : Option A → Bool) (none : test None ≡ false) where
  -- how many rows pass a test after one took the place of another, or came behind the last
  pub count-with_row : (id : ℕ) (row : Option A) (rows : List (Option A)) → 0 < id → id ≤ length rows + 1
      → length (filter test (with_row id row rows)) + one_if (test (row_in rows id)) ≡ length (filter test rows) + one_if (test row)
  count-with_row zero row rows above within = absurd (omega arith)
  count-with_row (suc place) row rows above within =
      let at = sum_by-set (λ r. one_if (test r)) rows place row None in let behind = sum_by_push (λ r. one_if (test r)) rows row in
      grind (arith, none, length-filter test, put_at-set place row rows, put_at-push place row rows, at, behind, get_or_past)

  -- a row that passes is counted
  pub counted_in : (id : ℕ) (rows : List (Option A)) → one_if (test (row_in rows id)) ≤ length (filter test rows)
  counted_in zero rows = rw none (omega arith)
  counted_in (suc place) rows = grind (arith, none, length-filter test, get_or-le-sum_by (λ r. one_if (test r)) rows place None, get_or_past)
