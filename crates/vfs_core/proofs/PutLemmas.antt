-- The rows and the count that is kept of the live ones, after a row took the place of another or came behind the last.
use Rattle.vfs_core.proofs.Words.{◌≡◌, ℕ, ◌+◌, ◌-◌, ◌<◌, ◌≤◌, zero, suc, Bool, true, false, List, length, get_or, None, refl, arith, nat_tests, bool_byte}
use Rattle.vfs_core.proofs.Words.{Option, is_some, row_in, put_at, with_row, one_if, count-with_row, counted_in, FileRow, live_count, length-with_row}

-- the place of an id
pub placed : (id : ℕ) (row : Option FileRow) (rows : List (Option FileRow)) → 0 < id
    → (put_at (id - 1) row rows ≡ with_row id row rows) × (get_or rows (id - 1) None ≡ row_in rows id)
placed zero row rows above = absurd (omega (arith, above))
placed (suc place) row rows above = let e : suc place - 1 ≡ place = omega arith in rw e (refl, refl)

-- a test as a number
byte_is : (b : Bool) → bool_byte b ≡ one_if b
byte_is true = refl
byte_is false = refl

-- the count of the live rows after one went, or none, and another came, or none
pub record IsCounted (live : ℕ) (went came : Bool) (new : List (Option FileRow)) : Type 0 where
  pub goes : bool_byte went ≤ live
  pub count : (live - bool_byte went) + bool_byte came ≡ live_count new
  pub fits : length new ≤ 4294967295

pub counted : (id : ℕ) (row old : Option FileRow) (rows new : List (Option FileRow)) (live : ℕ) (went came : Bool)
    → 0 < id → id ≤ length rows + 1 → id ≤ 4294967295 → (live ≡ live_count rows) × (length rows ≤ 4294967295)
    → old ≡ get_or rows (id - 1) None → new ≡ put_at (id - 1) row rows → went ≡ is_some old → came ≡ is_some row
    → IsCounted live went came new
counted id row old rows new live went came above inside small all at put goes comes =
    let place = placed id row rows above in
    let before = byte_is (is_some (row_in rows id)) in
    let after = byte_is (is_some row) in
    let had = counted_in is_some refl id rows in
    let change = count-with_row is_some refl id row rows above inside in
    rw (goes, comes, at, put, place.0, place.1) (record {
      goes = omega (arith, before, had, all.0);
      count = omega (arith, before, after, had, change, all.0);
      fits = grind (arith, nat_tests, length-with_row id row rows above inside, small, all.1);
    })
