-- Rows in order: those of one key among them, and what a stable sort by the keys gives.
use Rattle.file_index.proofs.Words.{◌≡◌, ℕ, zero, suc, leb, ltb, ◌-◌, ◌&&◌, ◌+◌, ◌<◌, ◌≤◌, Bool, true, false, List, [], ◌∷◌, length, get_or, take, drop}
use Rattle.file_index.proofs.Words.{length-drop, refl, sym, ap, arith, not, ◌==◌, nat_cmp, is_lt, is_le, ordering_then, ordering_index, eq_by_cmp, Ordering}
use Rattle.file_index.proofs.Words.{Less, IsTotalOrder, keys_of, AllByRecursion, filter, list_any, IsSortedBy, IsPartitionedBy, IsPartitionPoint, nat_tests}
use Rattle.file_index.proofs.Words.{get_or-drop, searchable_from_sorted, Less-from_sorted, filter_none, row_cmp, AreInOrder, cond, ◌∙◌, ⊎_elim, IsStableBy}
use Rattle.file_index.proofs.Words.{ties, cases_Bool, cond_both, tied_itself, recursion_from_All, All-weaker, All-from_recursion, sorted_far, ranks_by}
use Rattle.file_index.proofs.Words.{with_row, by_keys, rows_with, inl, inr}
use Rattle.std.specs.List.Sorted.{IsStrictlySortedBy}
use native.Mathlib.Numerals.{unary_clauses}

module _ {X : Type 0} (test : X → Bool) where
  -- a filter is the run of elements that pass
  filter_run : (xs : List X) (from after : ℕ) → from + after ≤ length xs
      → ((k : ℕ) (d : X) → k < length xs → test (get_or xs k d) ≡ (leb from k && ltb k (from + after))) → take after (drop from xs) ≡ filter test xs
  filter_run [] zero zero inside is = refl
  filter_run [] from (suc after) inside is = absurd (omega (arith, inside))
  filter_run [] (suc from) after inside is = absurd (omega (arith, inside))
  filter_run (x ∷ xs) zero zero inside is = sym (filter_none test (x ∷ xs) (λ k d l. grind (arith, nat_tests, is k d l)))
  filter_run (x ∷ xs) zero (suc after) inside is =
      let rest = filter_run xs zero after (omega arith) (λ k d l. grind (arith, nat_tests, is (suc k) d (omega arith))) in
      grind (arith, nat_tests, is 0 x (omega arith), rest)
  filter_run (x ∷ xs) (suc from) after inside is =
      let rest = filter_run xs from after (omega arith) (λ k d l. grind (arith, nat_tests, is (suc k) d (omega arith))) in
      grind (arith, nat_tests, is 0 x (omega arith), rest)

  -- a filter leaves something where something passes
  pub any_from_filter : (xs : List X) → not (length (filter test xs) == 0) ≡ list_any test xs
  any_from_filter [] = refl
  any_from_filter (x ∷ xs) = grind (arith, nat_tests, any_from_filter xs)

module _ {K V : Type 0} (key_cmp : K → K → Ordering) (rank_of : V → ℕ) (total : IsTotalOrder key_cmp) (rows : List (K × V)) (key : K) where
  -- rows in order are parted by each test that holds of a lower key where it holds of a higher one
  pub parted : (test : Ordering → Bool) → ((r s : Ordering) → ordering_index r ≤ ordering_index s → test s ≡ true → test r ≡ true)
      → AreInOrder key_cmp rank_of rows → IsPartitionedBy (λ (row : K × V). test (key_cmp row.0 key)) rows
  parted test falls ordered = λ i j d before inside. falls (key_cmp (get_or rows i d).0 key) (key_cmp (get_or rows j d).0 key)
      (searchable_from_sorted total (λ (row : K × V). row.0) rows key rises i j d before inside)
    where
      rises : IsSortedBy (λ (a b : K × V). is_lt (key_cmp a.0 b.0)) rows
      rises k d z l =
          let less = Less-from_sorted (row_cmp key_cmp rank_of) rows k (k + 1) d ordered (omega arith) l in
          grind (arith, less, total.antisymm (get_or rows (k + 1) d).0 (get_or rows k d).0)

  -- what lies between the two places is the rows of the key
  pub run_is : (key_eq : K → K → Bool) → ((a b : K) → key_eq a b ≡ eq_by_cmp key_cmp a b) → (from after : ℕ)
      → from ≤ length rows → after ≤ length (drop from rows)
      → IsPartitionPoint (λ (row : K × V). is_lt (key_cmp row.0 key) ≡ true) (λ (row : K × V). is_lt (key_cmp row.0 key) ≡ false) rows from
      → IsPartitionPoint (λ (row : K × V). is_le (key_cmp row.0 key) ≡ true) (λ (row : K × V). is_le (key_cmp row.0 key) ≡ false) (drop from rows) after
      → take after (drop from rows) ≡ filter (λ (row : K × V). key_eq key row.0) rows
  run_is key_eq ties from after inside inside2 lower upper = filter_run (λ row. key_eq key row.0) rows from after (omega (arith, length-drop from rows)) within
    where
      within : (k : ℕ) (d : K × V) → k < length rows → key_eq key (get_or rows k d).0 ≡ (leb from k && ltb k (from + after))
      within k d l =
          let left = length-drop from rows in
          let seam = get_or-drop from rows (k - from) d in
          let same : from ≤ k → from + (k - from) ≡ k = λ past. omega (arith, past) in
          let other = (get_or rows k d).0 in
          grind (arith, nat_tests, ties key other, total.antisymm key other, lower.0 k d, lower.1 k d, upper.0 (k - from) d, upper.1 (k - from) d)

module _ {K V : Type 0} (key_cmp : K → K → Ordering) (rank_of : V → ℕ) where
  below_rows : (r : K × V) (rows : List (K × V)) → AllByRecursion (λ k. key_cmp r.0 k ≡ Less) (keys_of rows)
      → AllByRecursion (λ s. row_cmp key_cmp rank_of r s ≡ Less) rows
  below_rows r [] all = tt
  below_rows r (s ∷ ss) all = (ap (λ o. ordering_then o (nat_cmp (rank_of r.1) (rank_of s.1))) all.0, below_rows r ss all.1)

  -- rows whose keys rise are in order
  pub in_order_by_key : (rows : List (K × V)) → IsStrictlySortedBy key_cmp (keys_of rows) → AreInOrder key_cmp rank_of rows
  unfolding IsStrictlySortedBy
  in_order_by_key [] rises = tt
  in_order_by_key (r ∷ rs) rises = (below_rows r rs rises.0, in_order_by_key rs rises.1)

module _ {K V : Type 0} (key_cmp : K → K → Ordering) (key_eq : K → K → Bool) (total : IsTotalOrder key_cmp)
    (alike : (a b : K) → key_eq a b ≡ eq_by_cmp key_cmp a b) where
  -- each row's key is not below this one
  abbrev NotBelow : K → List (K × V) → Type 0
  NotBelow key rows = AllByRecursion (λ row. is_lt (key_cmp row.0 key) ≡ false) rows

  -- no row's key is below that of one before it
  abbrev pub KeysRise : List (K × V) → Type 0
  KeysRise [] = Unit {0}
  KeysRise (x ∷ xs) = NotBelow x.0 xs × KeysRise xs

  none_with : (key x : K) (rows : List (K × V)) → key_cmp key x ≡ Less → NotBelow x rows → rows_with key_eq key rows ≡ []
  none_with key x [] less above = refl
  none_with key x (y ∷ ys) less above = grind (arith, less, above.0, alike key y.0, total.congr key y.0 x, none_with key x ys less above.1)

  -- two lists of rising keys with the same rows under each key are the same
  pub same_rows : (xs ys : List (K × V)) → KeysRise xs → KeysRise ys → ((key : K) → rows_with key_eq key xs ≡ rows_with key_eq key ys) → xs ≡ ys
  same_rows [] [] xs_rise ys_rise same = refl
  same_rows [] (y ∷ ys) xs_rise ys_rise same = grind (arith, same y.0, alike y.0 y.0, tied_itself total y.0)
  same_rows (x ∷ xs) [] xs_rise ys_rise same = grind (arith, same x.0, alike x.0 x.0, tied_itself total x.0)
  same_rows (x ∷ xs) (y ∷ ys) xs_rise ys_rise same =
      let lower = none_with x.0 y.0 ys in
      let upper = none_with y.0 x.0 xs in
      let own = tied_itself total x.0 in
      let other = tied_itself total y.0 in
      let heads : x ≡ y = grind (arith, same x.0, same y.0, alike x.0 x.0, alike x.0 y.0, alike y.0 x.0, alike y.0 y.0, total.antisymm y.0 x.0) in
      let tails : xs ≡ ys = same_rows xs ys xs_rise.1 ys_rise.1 (λ key. grind (arith, heads, same key)) in
      cc

  all_with : (P : K × V → Type 0) (row : K × V) (rows : List (K × V)) → P row → AllByRecursion P rows → AllByRecursion P (with_row key_cmp row rows)
  all_with P row [] one all = (one, tt)
  all_with P row (r ∷ rs) one all = cond_both (is_lt (key_cmp r.0 row.0)) (r ∷ with_row key_cmp row rs) (row ∷ r ∷ rs) (AllByRecursion P)
      (λ e. (all.0, all_with P row rs one all.1)) (λ e. (one, all))

  with_rises : (row : K × V) (rows : List (K × V)) → KeysRise rows → KeysRise (with_row key_cmp row rows)
  with_rises row [] rises = (tt, tt)
  with_rises row (r ∷ rs) rises = cond_both (is_lt (key_cmp r.0 row.0)) (r ∷ with_row key_cmp row rs) (row ∷ r ∷ rs) KeysRise
      (λ e. (all_with _ row rs ((ranks_by total (λ key. key)).one_way r.0 row.0 e) rises.0, with_rises row rs rises.1))
      (λ e. let rest = All-weaker _ _ (λ s above. (ranks_by total (λ key. key)).chain s.0 r.0 row.0 above e) rs (All-from_recursion _ rs rises.0) in
      ((e, recursion_from_All _ rs rest), rises))

  -- rows by their keys rise
  by_keys_rise : (rows : List (K × V)) → KeysRise (by_keys key_cmp rows)
  by_keys_rise [] = tt
  by_keys_rise (r ∷ rs) = with_rises r (by_keys key_cmp rs) (by_keys_rise rs)

  with_row_under : (key : K) (row : K × V) (rows : List (K × V)) → rows_with key_eq key (with_row key_cmp row rows) ≡ rows_with key_eq key (row ∷ rows)
  with_row_under key row [] = refl
  with_row_under key row (r ∷ rs) = grind (arith, with_row_under key row rs, alike key r.0, alike key row.0, total.congr key r.0 row.0)

  -- under a key stand the rows that have it, as they came
  pub by_keys_under : (key : K) (rows : List (K × V)) → rows_with key_eq key (by_keys key_cmp rows) ≡ rows_with key_eq key rows
  by_keys_under key [] = refl
  by_keys_under key (r ∷ rs) = with_row_under key r (by_keys key_cmp rs) ∙ ap (λ l. cond (key_eq key r.0) (r ∷ l) l) (by_keys_under key rs)

  module _ (rank_of : V → ℕ) where
    abbrev Below : K × V → K × V → Type 0
    Below x y = row_cmp key_cmp rank_of x y ≡ Less

    -- a row is below all others that rise from it, where it is below those of its key
    below_all : (x : K × V) (ys : List (K × V)) → NotBelow x.0 ys → AllByRecursion (Below x) (rows_with key_eq x.0 ys) → AllByRecursion (Below x) ys
    below_all x [] rises own = tt
    below_all x (y ∷ ys) rises own = ⊎_elim
        (λ same. let both = rw same at own in (both.0, below_all x ys rises.1 both.1))
        (λ other. let rest = rw other at own in (grind (arith, other, rises.0, alike x.0 y.0, total.antisymm y.0 x.0), below_all x ys rises.1 rest))
        (cases_Bool (key_eq x.0 y.0))

    -- rows of rising keys are in order where those of each key are
    rising_in_order : (rows : List (K × V)) → KeysRise rows
        → ((key : K) → AreInOrder key_cmp rank_of (rows_with key_eq key rows)) → AreInOrder key_cmp rank_of rows
    unfolding IsStrictlySortedBy
    rising_in_order [] rises each = tt
    rising_in_order (x ∷ xs) rises each =
        let own = rw (alike x.0 x.0, tied_itself total x.0) at (each x.0) in
        let rest : (key : K) → AreInOrder key_cmp rank_of (rows_with key_eq key xs) =
        λ key. elim (cases_Bool (key_eq key x.0)) [ inl same ↦ (rw same at (each key)).1 | inr other ↦ rw other at (each key) ] in
        (below_all x xs rises.0 own.0, rising_in_order xs rises.1 rest)

  abbrev lower : K × V → K × V → Bool
  lower a b = is_lt (key_cmp a.0 b.0)

  -- sorted rows rise by their keys
  sorted_rise : (rows : List (K × V)) → IsSortedBy lower rows → KeysRise rows
  sorted_rise [] sorted = tt
  sorted_rise (x ∷ xs) sorted = (
    recursion_from_All _ xs (λ k d l. sorted_far lower (ranks_by total (λ row. row.0)) (x ∷ xs) sorted 0 (suc k) d (omega arith) (omega arith)),
    sorted_rise xs (λ k d low l. simp unary_clauses (simp unary_clauses at (sorted (suc k) d (omega arith) (omega arith)))),
  )

  -- rows that a key's rows tie with are those of that key
  tied : (key : K) (v : V) (rows : List (K × V)) → filter (ties lower (key, v)) rows ≡ rows_with key_eq key rows
  tied key v [] = refl
  tied key v (r ∷ rs) = grind (arith, tied key v rs, alike key r.0, total.antisymm r.0 key)

  -- a stable sort keeps the rows under each key
  stable_under : (old new : List (K × V)) → IsStableBy lower old new → (key : K) → rows_with key_eq key new ≡ rows_with key_eq key old
  stable_under [] [] stable key = refl
  stable_under [] (y ∷ ys) stable key = sym (tied key y.1 (y ∷ ys)) ∙ stable (key, y.1)
  stable_under (x ∷ xs) new stable key = sym (tied key x.1 new) ∙ stable (key, x.1) ∙ tied key x.1 (x ∷ xs)

  -- a stable sort by the keys gives the rows by their keys
  pub sorted_by_keys : (old new : List (K × V)) → IsSortedBy lower new → IsStableBy lower old new → new ≡ by_keys key_cmp old
  sorted_by_keys old new sorted stable = same_rows new (by_keys key_cmp old) (sorted_rise new sorted) (by_keys_rise old)
      (λ key. stable_under old new stable key ∙ sym (by_keys_under key old))

  -- and they are in order where those of each key were
  pub by_keys_in_order : (rank_of : V → ℕ) (old : List (K × V)) → ((key : K) → AreInOrder key_cmp rank_of (rows_with key_eq key old))
      → AreInOrder key_cmp rank_of (by_keys key_cmp old)
  by_keys_in_order rank_of old each = rising_in_order rank_of (by_keys key_cmp old) (by_keys_rise old) (λ key. rw (by_keys_under key old) (each key))
