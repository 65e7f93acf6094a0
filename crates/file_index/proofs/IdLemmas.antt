-- Rising ids, and what is among them after one was put in or taken out.
use Rattle.file_index.proofs.Words.{◌≡◌, ℕ, zero, suc, ◌+◌, ◌-◌, ◌<◌, ◌≤◌, ◌||◌, ◌&&◌, eqb, false, List, [], ◌∷◌, length, get_or, take, drop, length-drop, sym}
use Rattle.file_index.proofs.Words.{arith, ⊎_elim, not, Ok, Err, nat_cmp, Ordering, Less, insert, remove, AllByRecursion, ne_eqb, eq-eqb, cases_lt, nat_tests}
use Rattle.file_index.proofs.Words.{get_or-drop, recursion_from_All, All-from_recursion, All-from_get_or, All-cons, All-take, All-drop, All-append, All-weaker}
use Rattle.file_index.proofs.Words.{list_any_none, list_any_at, All-permutation, IsPermutation-insert, list_any-IsPermutation, non_decreasing_from_sorted}
use Rattle.file_index.proofs.Words.{below_from_sorted, sorted_tail, IsPlaceOf, has_id}
use Rattle.std.specs.List.Sorted.{IsStrictlySortedBy}

-- of rising keys the first rise, and the last do
pub parts_rise : {K : Type 0} (c : K → K → Ordering) (n : ℕ) (ks : List K) → IsStrictlySortedBy c ks
    → IsStrictlySortedBy c (take n ks) × IsStrictlySortedBy c (drop n ks)
unfolding IsStrictlySortedBy
parts_rise c zero ks rises = (tt, rises)
parts_rise c (suc n) [] rises = (tt, tt)
parts_rise c (suc n) (k ∷ ks) rises =
    let rest = parts_rise c n ks rises.1 in
    let first = All-take (λ y. c k y ≡ Less) n ks (All-from_recursion _ ks rises.0) in
    ((recursion_from_All _ (take n ks) first, rest.0), rest.1)

-- what holds of an id, and follows from what holds of all others, holds of them with that id put in
pub all_inserted : (P Q : ℕ → Type 0) (ids : List ℕ) (at id : ℕ) → ((x : ℕ) → P x → Q x) → Q id → AllByRecursion P ids → AllByRecursion Q (insert ids at id)
all_inserted P Q ids at id weaker one all = recursion_from_All Q (insert ids at id)
    (All-permutation Q (id ∷ ids) (insert ids at id) (IsPermutation-insert ids at id)
    (All-cons Q id ids one (All-weaker P Q weaker ids (All-from_recursion P ids all))))

-- what holds of all ids holds of all but one
pub all_removed : (P : ℕ → Type 0) (ids : List ℕ) (at : ℕ) → AllByRecursion P ids → AllByRecursion P (remove ids at)
all_removed P ids at all =
    let every = All-from_recursion P ids all in
    recursion_from_All P (remove ids at) (All-append P (take at ids) (drop (suc at) ids) (All-take P at ids every) (All-drop P (suc at) ids every))

-- ids still rise with one more at its place
pub insert_rises : (ids : List ℕ) (at id : ℕ) → IsStrictlySortedBy nat_cmp ids → IsPlaceOf id ids (Err at) → IsStrictlySortedBy nat_cmp (insert ids at id)
unfolding IsStrictlySortedBy
insert_rises [] zero id rises gap = (tt, tt)
insert_rises [] (suc at) id rises gap = absurd (omega (arith, gap.0))
insert_rises (x ∷ xs) zero id rises gap =
    (recursion_from_All _ (x ∷ xs) (All-from_get_or (λ y. nat_cmp id y ≡ Less) (x ∷ xs) 0 (λ k l. grind (arith, nat_tests, gap.2 k (omega arith) l))), rises)
insert_rises (x ∷ xs) (suc at) id rises gap = (
  all_inserted _ _ xs at id (λ y l. l) (grind (arith, nat_tests, gap.1 0 (omega arith))) rises.0,
  insert_rises xs at id rises.1 (omega (arith, gap.0), (λ k l. gap.1 (suc k) (omega arith)), (λ k l m. gap.2 (suc k) (omega arith) (omega arith))),
)

-- and with one less
pub remove_rises : (ids : List ℕ) (at : ℕ) → IsStrictlySortedBy nat_cmp ids → IsStrictlySortedBy nat_cmp (remove ids at)
unfolding IsStrictlySortedBy
remove_rises [] zero rises = tt
remove_rises [] (suc at) rises = tt
remove_rises (x ∷ xs) zero rises = rises.1
remove_rises (x ∷ xs) (suc at) rises = (all_removed _ xs at rises.0, remove_rises xs at rises.1)

-- an id that none of them is isn't among them
absent : (j : ℕ) (ids : List ℕ) → ((k : ℕ) → k < length ids → j ≡ get_or ids k 0 → ⊥) → has_id j ids ≡ false
absent j ids away = list_any_none (eqb j) ids (All-from_get_or (λ y. eqb j y ≡ false) ids 0 (λ k l. ne_eqb j _ (away k l)))

-- what is among the ids with one more
pub has_id-insert : (ids : List ℕ) (at id j : ℕ) → has_id j (insert ids at id) ≡ (has_id j ids || eqb j id)
has_id-insert ids at id j = grind (arith, list_any-IsPermutation (eqb j) (id ∷ ids) (insert ids at id) (IsPermutation-insert ids at id))

-- what is among the ids with one less
pub has_id-remove : (ids : List ℕ) (at id j : ℕ) → IsStrictlySortedBy nat_cmp ids → IsPlaceOf id ids (Ok at)
    → has_id j (remove ids at) ≡ (has_id j ids && not (eqb j id))
has_id-remove [] at id j rises found = absurd (omega (arith, found.0))
has_id-remove (x ∷ xs) zero id j rises found =
    let none = absent x xs (λ k l e. omega (arith, below_from_sorted (x ∷ xs) 0 (suc k) 0 rises (omega arith) (omega arith))) in
    grind (arith, nat_tests, none, found.1)
has_id-remove (x ∷ xs) (suc at) id j rises found =
    let rest = has_id-remove xs at id j (sorted_tail nat_cmp x xs rises) (omega (arith, found.0), found.1) in
    grind (arith, nat_tests, rest, found.1, below_from_sorted (x ∷ xs) 0 (suc at) 0 rises (omega arith) found.0)

-- one that would go into the tail, behind the first there
pub goes_into_tail : (ids : List ℕ) (near id at : ℕ) → IsStrictlySortedBy nat_cmp ids → near ≤ length ids → 0 < at
    → IsPlaceOf id (drop near ids) (Err at) → IsPlaceOf id ids (Err (near + at))
goes_into_tail ids near id at rises inside some gap = (
  omega (arith, gap.0, length-drop near ids),
  (λ k before.
      let up = non_decreasing_from_sorted ids rises k (near + (k - near)) 0 (omega arith) (omega (arith, gap.0, length-drop near ids)) in
      omega (arith, up, gap.1 (k - near) (omega arith), get_or-drop near ids (k - near) 0)),
  (λ k from within.
      let up = non_decreasing_from_sorted ids rises (near + (k - near)) k 0 (omega arith) within in
      omega (arith, up, gap.2 (k - near) (omega arith) (omega (arith, length-drop near ids)), get_or-drop near ids (k - near) 0)),
)

-- an id that has a place is among them already
pub found_has : (ids : List ℕ) (at id : ℕ) → IsPlaceOf id ids (Ok at) → (j : ℕ) → has_id j ids ≡ (has_id j ids || eqb j id)
found_has ids at id found j = grind (arith, nat_tests, list_any_at (eqb id) ids at 0 found.0 (eq-eqb id _ (sym found.1)))

-- an id that has none isn't among them
pub missed_has : (ids : List ℕ) (at id : ℕ) → IsPlaceOf id ids (Err at) → (j : ℕ) → has_id j ids ≡ (has_id j ids && not (eqb j id))
missed_has ids at id gap j =
    let none = absent id ids (λ k l e. ⊎_elim (λ below. omega (arith, gap.1 k below)) (λ above. omega (arith, gap.2 k above l)) (cases_lt k at)) in
    grind (arith, nat_tests, none)
