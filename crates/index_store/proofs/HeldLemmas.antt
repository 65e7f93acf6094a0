-- The entries that a store holds: one more, a look, their bytes, and rows that are taken in one after another, as a loop does.
use Rattle.index_store.proofs.Words.{nat_tests, ◌≡◌, ℕ, suc, ◌^◌, ◌<◌, ◌≤◌, true, ◌||◌, List, [], ◌∷◌, ◌++◌, length, Option, Some, None, Ordering, Less, Equal}
use Rattle.index_store.proofs.Words.{Greater, refl, sym, ap, subst, ◌∙◌, append_assoc, arith, option_map, flat_map, is_eq, is_lt, match_ordering, nat_cmp}
use Rattle.index_store.proofs.Words.{ordering_reverse, IsTotalOrder, then_total, on_total, nat_cmp_total, tied_itself, slice_cmp, nat_list_cmp_total}
use Rattle.index_store.proofs.Words.{bytes_decides, lookup, insert_entry, is_at, length-map, map-append, CmpEqualImpliesEq, exact_pairs, exact_unsigned}
use Rattle.index_store.proofs.Words.{is_eq-slice_cmp, IsText, number, StoreEntry, entry_cmp, data_of, StoreRow, data_bytes, row_bytes, rows_of, versions}
use Rattle.index_store.proofs.Words.{AllAfter, entry_rises, IsRow, IsStoreBytes, has_entry, with_entry, rows_for, Key, key_of, entry_of, key_cmp, Stored}
use Rattle.index_store.proofs.Words.{AreDataOf, IsHeld, AreHeld, entries_in, held_bytes, zero, map, Ok, ok_is, StoreRefusal, OtherVersion, BadStore, WrongData}
use Rattle.index_store.proofs.Words.{OutOfMemory, other_version, all_of, IsRight, IsFirstWrong, IsRefusalOf, ◌+◌, false, get_or, drop, drop_more, IsTakenIn}
use Rattle.std.specs.List.Sorted.{IsStrictlySortedBy}
use Rattle.std.specs.Map.{keys_of}

-- ---- keys and entries

pub entry_again : (e : StoreEntry) → entry_of (key_of e) ≡ e
entry_again e = grind (arith, nat_tests)

key_order : IsTotalOrder key_cmp
key_order = then_total (on_total (λ (k : Key). k.0) nat_list_cmp_total) (on_total (λ (k : Key). k.1) nat_cmp_total)

key_equal : CmpEqualImpliesEq key_cmp
key_equal = exact_pairs (slice_cmp nat_cmp) nat_cmp (λ a b equal. (bytes_decides a b).0 (sym (is_eq-slice_cmp a b) ∙ ap is_eq equal)) exact_unsigned

-- entries of which neither is above the other are one
pub entry_equal : (a b : StoreEntry) → entry_cmp a b ≡ Equal → a ≡ b
entry_equal a b equal = sym (entry_again a) ∙ ap entry_of (key_equal (key_of a) (key_of b) equal) ∙ entry_again b

pub entry_itself : (a : StoreEntry) → entry_cmp a a ≡ Equal
entry_itself a = tied_itself key_order (key_of a)

-- what is among the entries with one more
pub has_more : (x e : StoreEntry) (es : List StoreEntry) → has_entry x (with_entry e es) ≡ (is_eq (entry_cmp x e) || has_entry x es)
has_more x e [] = refl
has_more x e (y ∷ ys) = grind (arith, has_more x e ys, entry_equal e y)

-- ---- one entry more

is_held : (e : StoreEntry) (d : Stored) → IsText e.text → AreDataOf e d → IsHeld (key_of e, d)
is_held e d text right = record { coded = ap key_of (sym (entry_again e)); text = text; right = rw (entry_again e) right }

-- what is held with one more
pub record IsPut (e : StoreEntry) (d : Stored) (old new : List (Key × Stored)) : Type 0 where
  pub entries : entries_in new ≡ with_entry e (entries_in old)
  pub held : AreHeld new
  pub few : length new ≤ suc (length old)

pub put_in : (e : StoreEntry) (d : Stored) → IsText e.text → AreDataOf e d → (hs : List (Key × Stored)) → AreHeld hs
    → IsPut e d hs (insert_entry key_cmp hs (key_of e) d)
put_in e d text right [] held = record { entries = ap (λ (x : StoreEntry). x ∷ []) (entry_again e); held = (is_held e d text right, tt); few = omega arith }
put_in e d text right (h ∷ hs) held =
    let this = is_held e d text right in
    let more = put_in e d text right hs held.1 in
    let after = λ (r : Ordering). match_ordering r ((key_of e, d) ∷ h ∷ hs) ((h.0, d) ∷ hs) (h ∷ insert_entry key_cmp hs (key_of e) d) in
    record {
      entries = grind (arith, ap (key_cmp (key_of e)) held.0.coded, entry_again e, more.entries);
      held = (elim (key_cmp (key_of e) h.0) as (λ r. key_cmp (key_of e) h.0 ≡ r → AreHeld (after r)) [
        | Less ↦ λ _. (this, held)
        | Equal ↦ λ equal. (subst (λ (k : Key). IsHeld (k, d)) (key_equal (key_of e) h.0 equal) this, held.1)
        | Greater ↦ λ _. (held.0, more.held)
      ]) refl;
      few = grind (arith, more.few);
    }

-- a look finds the rows of the entries that are held
pub found : (hs : List (Key × Stored)) (e : StoreEntry) → AreHeld hs
    → option_map (λ (d : Stored). d.0) (lookup (is_at (key_cmp (key_of e))) hs) ≡ rows_for e (entries_in hs)
found [] e held = refl
found (h ∷ hs) e held = rw held.0.coded (grind (arith, entry_equal e (entry_of h.0), held.0.right.rows, found hs e held.1))

-- ---- rows

-- the row of an entry that is held
abbrev row_of : Key × Stored → StoreRow
row_of h = (entry_of h.0, data_bytes (entry_of h.0).kind (data_of (entry_of h.0).kind h.0.0))

-- rows that are held are lawful where their keys rise
row_is : (before : Option StoreRow) (h : Key × Stored) → entry_rises before (entry_of h.0) ≡ true → IsHeld h → IsRow before (row_of h)
row_is before h rises is =
    record { text = is.text; rises = rises; held = record { held = data_of (entry_of h.0).kind h.0.0; lawful = is.right.lawful; spelled = refl } }

rows_behind : (before : Option StoreRow) (h : Key × Stored) (hs : List (Key × Stored)) → entry_rises before (entry_of h.0) ≡ true → AreHeld (h ∷ hs)
    → IsStrictlySortedBy key_cmp (keys_of (h ∷ hs)) → AllAfter IsRow before (rows_of (entries_in (h ∷ hs)))
unfolding IsStrictlySortedBy
rows_behind before h [] rises held ordered = (row_is before h rises held.0, tt)
rows_behind before h (g ∷ hs) rises held ordered =
    let below : entry_cmp (entry_of h.0) (entry_of g.0) ≡ Less = rw (held.0.coded, held.1.0.coded) at ordered.0.0 in
    (row_is before h rises held.0, rows_behind (Some (row_of h)) g hs (ap is_lt below) held.1 ordered.1)

pub rows_lawful : (hs : List (Key × Stored)) → AreHeld hs → IsStrictlySortedBy key_cmp (keys_of hs) → AllAfter IsRow None (rows_of (entries_in hs))
rows_lawful [] held ordered = tt
rows_lawful (h ∷ hs) held ordered = rows_behind None h hs refl held ordered

same_bytes : (hs : List (Key × Stored)) → AreHeld hs → flat_map held_bytes hs ≡ flat_map row_bytes (rows_of (entries_in hs))
same_bytes [] held = refl
same_bytes (h ∷ hs) held = cc (ap (λ (k : Key). k.1) held.0.coded, held.0.right.spelled, same_bytes hs held.1)

-- the bytes of what is held are those of a store
pub held_store : (hs : List (Key × Stored)) (bytes : List ℕ) → AreHeld hs → IsStrictlySortedBy key_cmp (keys_of hs) → length hs < 2 ^ 32
    → bytes ≡ versions ++ (number (length hs) ++ flat_map held_bytes hs) → IsStoreBytes (rows_of (entries_in hs)) bytes
held_store hs bytes held ordered few spelled =
    let count : length (rows_of (entries_in hs)) ≡ length hs = length-map (entries_in hs) _ ∙ length-map hs _ in
    record { lawful = rows_lawful hs held ordered; few = omega (arith, few, count); spelled = rw (count, ← same_bytes hs held) spelled }

-- entries taken in order: what stands above one that may come next may come too
rises-on : (before : Option StoreRow) (a b : StoreEntry) → entry_rises before a ≡ true → entry_cmp a b ≡ Less → entry_rises before b ≡ true
rises-on None a b rises less = refl
rises-on (Some before) a b rises less = ap is_lt (key_order.trans (key_of before.0) (key_of a) (key_of b) (grind (arith, rises)) less)

-- an entry whose row stands behind those of others comes behind them
pub appended : (es : List StoreEntry) (row : StoreRow) (rest : List StoreRow) (before : Option StoreRow) → AllAfter IsRow before (rows_of es ++ row ∷ rest)
    → (with_entry row.0 es ≡ es ++ row.0 ∷ []) × (entry_rises before row.0 ≡ true) × IsText row.0.text
appended [] row rest before good = (refl, good.0.rises, good.0.text)
appended (e ∷ es) row rest before good =
    let more = appended es row rest (Some (e, data_bytes e.kind (data_of e.kind e.text))) good.1 in
    let less : entry_cmp e row.0 ≡ Less = grind (arith, more.1) in
    let above : entry_cmp row.0 e ≡ Greater = key_order.antisymm (key_of row.0) (key_of e) ∙ ap ordering_reverse less in
    (rw (above, more.0) refl, rises-on before e row.0 good.0.rises less, more.2)

-- ---- the first row whose data aren't right, and refusals of bytes that are those of a store

-- behind entries whose data are right, a row whose data aren't is the first
pub first_wrong : (es : List StoreEntry) (row : StoreRow) (rest : List StoreRow) → (IsRight row → ⊥) → IsFirstWrong (suc (length es)) (rows_of es ++ row ∷ rest)
first_wrong [] row rest never = never
first_wrong (e ∷ es) row rest never = (refl, first_wrong es row rest never)

-- among rows whose data are right there is none
none_wrong : (place : ℕ) (es : List StoreEntry) → IsFirstWrong place (rows_of es) → ⊥
none_wrong zero es wrong = wrong
none_wrong (suc place) [] wrong = wrong
none_wrong (suc zero) (e ∷ es) wrong = wrong refl
none_wrong (suc (suc place)) (e ∷ es) wrong = none_wrong (suc place) es wrong.1

entries_again : (es : List StoreEntry) → map (λ (row : StoreRow). row.0) (rows_of es) ≡ es
entries_again [] = refl
entries_again (e ∷ es) = cc (entries_again es)

module _ (bytes : List ℕ) (es : List StoreEntry) (read : (other_version bytes ≡ None) × (all_of bytes ≡ Ok (rows_of es))) where
  -- bytes are those of one list of entries at most
  pub one_list : (fs : List StoreEntry) → all_of bytes ≡ Ok (rows_of fs) → fs ≡ es
  one_list fs other = sym (entries_again fs) ∙ ap (map (λ (row : StoreRow). row.0)) (ok_is (rows_of fs) (rows_of es) (sym other ∙ read.1)) ∙ entries_again es

  -- bytes of a store whose data are right are refused for want of memory alone
  pub no_refusal : (refusal : StoreRefusal) → IsRefusalOf bytes refusal → refusal ≡ OutOfMemory
  no_refusal OutOfMemory refused = refl
  no_refusal (OtherVersion at found) refused = absurd (let none = read.0 in cc)
  no_refusal (BadStore at) refused = absurd (let rows = read.1 in let other = refused.1.1 in cc)
  no_refusal (WrongData entry) refused = absurd (none_wrong entry es (rw (ok_is refused.1.0 (rows_of es) (sym refused.1.1 ∙ read.1)) at refused.1.2))

module _ (es : List StoreEntry) (rows : List StoreRow) (i : ℕ) (so_far : rows_of es ++ drop i rows ≡ rows) where
  module _ (d row : StoreRow) (inside : i < length rows) (is : row ≡ get_or rows i d) where
    split : rows_of es ++ row ∷ drop (i + 1) rows ≡ rows
    split = rw (is, ← drop_more rows i d inside) so_far

    -- a row's text is one
    pub row_text : AllAfter IsRow None rows → IsText row.0.text
    row_text good = (appended es row (drop (i + 1) rows) None (rw split good)).2

    -- what `take_in` tells of a row whose data are right
    pub taken_row : (new : List StoreEntry) → AllAfter IsRow None rows → IsTakenIn true row es new → rows_of new ++ drop (i + 1) rows ≡ rows
    taken_row new good told =
        rw (told.1, (appended es row (drop (i + 1) rows) None (rw split good)).0)
        (simp (map-append, append_assoc) (ap (λ (l : List ℕ). rows_of es ++ (row.0, l) ∷ drop (i + 1) rows) (sym told.0) ∙ split))

    -- and of one whose data aren't
    pub wrong_row : (new : List StoreEntry) (len : ℕ) → IsTakenIn false row es new → len ≡ length new → IsFirstWrong (len + 1) rows
    wrong_row new len told count =
        let place : suc (length es) ≡ len + 1 = omega (arith, count, ap length told.1) in
        rw (← place) (subst (IsFirstWrong (suc (length es))) split (first_wrong es row (drop (i + 1) rows) told.0))
