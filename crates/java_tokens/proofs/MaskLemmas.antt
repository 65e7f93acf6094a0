-- Words in order: what a search finds among them, what one occurrence more makes of them, and that words gathered in any order stand for them.
use Rattle.java_tokens.proofs.Common.{T, ◌≡◌, ℕ, ◌+◌, ◌<◌, List, length, get_or, Some, None, Result, Ok, Err, Ordering, Less, Greater, ap, ◌∙◌, arith, true}
use Rattle.java_tokens.proofs.Common.{cond, [], ◌∷◌, Option, refl, sym, inl, inr, MatchResult, fold, bit_or, unwrap_or, ordering_index, ordering_reverse}
use Rattle.java_tokens.proofs.Common.{is_lt, is_eq, nat_list_cmp_total, nat_list_eq_equiv, texts_ties, keys_of, lookup, bytes_eq, or_zero_l, get_or-map}
use Rattle.java_tokens.proofs.Common.{searchable_from_sorted, cases_Bool, bytes_eq-Decides, WordRow, name_cmp, mask_in, AreInOrder, with_occurrence}
use Rattle.java_tokens.proofs.Common.{occurrences_of, bits_of, union_of, HasMasksOf, in_order_of}
use Rattle.std.specs.List.{IsDistinct}
use Rattle.std.specs.List.Sorted.{IsStrictlySortedBy, IsNonDecreasingBy, IsBinarySearchResult, IsSearchInRange, IsSorted}
use Rattle.java_tokens.specs.Words.{words_of}
use Rattle.std.specs.FinMap.Entries.{find, put, is_sorted, is_sorted-put, find-put, same_entries}
use Rattle.std.specs.Cmp.{eq_by_cmp_equiv}
use Rattle.std.specs.BTreeMap.{insert_entry}
use Rattle.std.proofs.lemmas.Map.Entries.{length-keys_of, lookup_at_gap, lookup_from_place, none_past_head}
use Rattle.std.proofs.lemmas.Map.Keys.{IsDistinct-from_sorted, Less-from_sorted, apart_from_distinct, sorted_from_all_adjacent}
use Rattle.std.proofs.lemmas.Map.Lookups.{exact_bytes}
use Rattle.std.proofs.lemmas.Option.{slice_get-get_or, slice_get_within, get_or_from_slice_get}
use Rattle.std.proofs.lemmas.Map.{lookup-none}

-- two names in order the other way round
pub reversed : (a b : List ℕ) (r : Ordering) → name_cmp a b ≡ r → name_cmp b a ≡ ordering_reverse r
reversed a b r is = nat_list_cmp_total.antisymm b a ∙ ap ordering_reverse is

-- a binary search ends at the word of the name, or where there is none
pub searched : (ws : List WordRow) (name : List ℕ) → AreInOrder ws → (r : Result ℕ ℕ)
    → IsSearchInRange r (length ws) → IsBinarySearchResult (λ row. name_cmp row.0 name) ws r
    → MatchResult r (λ i. (d : WordRow) → mask_in ws name ≡ Some (get_or ws i d).1) (λ _. mask_in ws name ≡ None)
searched ws name ordered (Ok i) inside equal = λ d.
    let here = get_or ws i d in
    rw (← exact_bytes here.0 name (equal d)) (lookup_from_place (eq_by_cmp_equiv nat_list_cmp_total) ws i here.0 here.1
    (IsDistinct-from_sorted name_cmp (keys_of ws) ordered) (slice_get-get_or ws i d inside))
searched ws name ordered (Err i) inside parted =
    let rise : IsNonDecreasingBy (λ row. ordering_index (name_cmp row.0 name)) ws =
    searchable_from_sorted nat_list_cmp_total (λ row. row.0) ws name (λ k d _ inside.
    let below = Less-from_sorted name_cmp (keys_of ws) k (k + 1) d.0 ordered (omega arith) (omega (arith, length-keys_of ws)) in
    let name_at = λ (i : ℕ) (l : i < length ws). get_or-map (λ (row : WordRow). row.0) ws i d d.0 l in
    ap is_lt (reversed (get_or ws k d).0 (get_or ws (k + 1) d).0 Less (rw (name_at k (omega arith), name_at (k + 1) inside) at below))) in
    let parts = parted rise in
    lookup_at_gap nat_list_cmp_total name ws i ordered
    (λ j e before is. reversed e.0 name Less (rw (get_or_from_slice_get ws j e e is) at (parts.0 j e (omega arith) before)))
    (λ e is. reversed e.0 name Greater (rw (get_or_from_slice_get ws i e e is) at (parts.1 i e (omega arith) (slice_get_within ws i e is))))

-- std's look-up among sorted entries, and its entry put in place
mask_in-find : (ws : List WordRow) (name : List ℕ) → mask_in ws name ≡ find name_cmp name ws
mask_in-find [] name = refl
mask_in-find (w ∷ ws) name = rw (mask_in-find ws name) refl

insert-put : (ws : List WordRow) (name : List ℕ) (mask : ℕ) → insert_entry name_cmp ws name mask ≡ put name_cmp name mask ws
insert-put [] name mask = refl
insert-put (w ∷ ws) name mask = rw (insert-put ws name mask) refl

-- words are in order where std's test finds them sorted
sorted-cons : (w : WordRow) (ws : List WordRow)
    → (is_sorted name_cmp (w ∷ ws) ≡ true → AreInOrder (w ∷ ws)) × (AreInOrder (w ∷ ws) → is_sorted name_cmp (w ∷ ws) ≡ true)
unfolding IsStrictlySortedBy
sorted-cons w [] = ((λ _. (tt, tt)), (λ _. refl))
sorted-cons w (v ∷ vs) =
    let first = sorted-cons w vs in
    let later = sorted-cons v vs in (
      (λ sorted. ((grind (arith, sorted), (first.0 (grind (arith, sorted))).0), later.0 (grind (arith, sorted)))),
      (λ ordered. grind (arith, ordered.0.0, first.1 (ordered.0.1, ordered.1.1), later.1 ordered.1)),
    )

sorted-is : (ws : List WordRow) → (T (is_sorted name_cmp ws) → AreInOrder ws) × (AreInOrder ws → T (is_sorted name_cmp ws))
unfolding IsStrictlySortedBy
sorted-is [] = ((λ _. tt), (λ _. tt))
sorted-is (w ∷ ws) = elim (cases_Bool (is_sorted name_cmp (w ∷ ws))) [
  | inl passes ↦ ((λ _. (sorted-cons w ws).0 passes), (λ _. rw passes tt))
  | inr fails ↦ ((λ sorted. absurd (rw fails at sorted)), (λ ordered. rw ((sorted-cons w ws).1 ordered) tt))
]

-- words stay in order with occurrences more
sorted-fold : (os ws : List WordRow) → T (is_sorted name_cmp ws) → T (is_sorted name_cmp (fold with_occurrence ws os))
sorted-fold [] ws sorted = sorted
sorted-fold (o ∷ os) ws sorted =
    sorted-fold os (with_occurrence ws o) (rw (insert-put ws o.0 _) (is_sorted-put name_cmp nat_list_cmp_total o.0 _ ws sorted))

-- the words of a text are in order
pub in_order-words_of : (text : List ℕ) → AreInOrder (words_of text)
unfolding words_of
in_order-words_of text = (sorted-is _).0 (sorted-fold (occurrences_of text) [] tt)

-- a name's place in the order tells it from the others
is_eq-name_cmp : (other name : List ℕ) → is_eq (name_cmp other name) ≡ bytes_eq name other
is_eq-name_cmp other name = sym (texts_ties other name) ∙ nat_list_eq_equiv.symm other name

-- the mask of a name, after one name got another mask
pub mask_in-insert : (ws : List WordRow) (name : List ℕ) (mask : ℕ) (other : List ℕ)
    → mask_in (insert_entry name_cmp ws name mask) other ≡ cond (bytes_eq name other) (Some mask) (mask_in ws other)
mask_in-insert ws name mask other =
    mask_in-find (insert_entry name_cmp ws name mask) other
    ∙ rw (insert-put ws name mask, mask_in-find ws other, ← is_eq-name_cmp other name) (find-put name_cmp nat_list_cmp_total other name mask ws)

-- the mask that a name had, united with bits that come to it
abbrev united : Option ℕ → List ℕ → Option ℕ
united None bits = union_of bits
united (Some mask) bits = Some (fold bit_or mask bits)

-- the mask of a name, after many occurrences
pub mask_in-fold : (os ws : List WordRow) (name : List ℕ) → mask_in (fold with_occurrence ws os) name ≡ united (mask_in ws name) (bits_of os name)
mask_in-fold [] ws name = elim (mask_in ws name) as (λ had. had ≡ united had []) [ None ↦ refl | Some mask ↦ refl ]
mask_in-fold (o ∷ os) ws name =
    let same = (bytes_eq-Decides o.0 name).0 in
    mask_in-fold os (with_occurrence ws o) name ∙ rw (mask_in-insert ws o.0 _ name) (grind (arith, same, or_zero_l o.1))

-- the words of a text have the masks of its occurrences
pub has_masks-words_of : (text : List ℕ) → HasMasksOf (words_of text) (occurrences_of text)
unfolding words_of
has_masks-words_of text name = mask_in-fold (occurrences_of text) [] name

-- two sorted lists that have the same masks are the same
same_words : (vs ws : List WordRow) → T (is_sorted name_cmp vs) → T (is_sorted name_cmp ws) → ((name : List ℕ) → mask_in vs name ≡ mask_in ws name) → vs ≡ ws
same_words vs ws sorted sorted' same =
    same_entries name_cmp nat_list_cmp_total exact_bytes vs ws sorted sorted' (λ name. sym (mask_in-find vs name) ∙ same name ∙ mask_in-find ws name)

-- where each name stands once its bits are its mask
bits_of-distinct : (es : List WordRow) → IsDistinct bytes_eq (keys_of es) → (name : List ℕ) → union_of (bits_of es name) ≡ lookup (bytes_eq name) es
unfolding IsDistinct
bits_of-distinct [] distinct name = refl
bits_of-distinct (e ∷ es) distinct name =
    let none = λ (this : bytes_eq name e.0 ≡ true). lookup-none (bytes_eq name) es (none_past_head nat_list_eq_equiv name e es distinct this) in
    grind (arith, nat_list_eq_equiv.symm e.0 name, bits_of-distinct es distinct.1 name, none)

-- the mask of a name in the ordered list is the one that was gathered
mask_in-in_order_of : (es : List WordRow) → IsDistinct bytes_eq (keys_of es) → (name : List ℕ) → mask_in (in_order_of es) name ≡ lookup (bytes_eq name) es
mask_in-in_order_of es distinct name = mask_in-fold es [] name ∙ bits_of-distinct es distinct name

-- one occurrence more, among what was gathered and so in the ordered list
pub gathered_more : (es ds : List WordRow) (name : List ℕ) (bit mask : ℕ) → IsDistinct bytes_eq (keys_of es) → IsDistinct bytes_eq (keys_of ds)
    → mask ≡ bit_or (unwrap_or (lookup (bytes_eq name) es) 0) bit
    → ((other : List ℕ) → lookup (bytes_eq other) ds ≡ cond (bytes_eq name other) (Some mask) (lookup (bytes_eq other) es))
    → in_order_of ds ≡ with_occurrence (in_order_of es) (name, bit)
gathered_more es ds name bit mask distinct distinct' united more =
    let ws = in_order_of es in
    let had = mask_in-in_order_of es distinct in
    same_words (in_order_of ds) (with_occurrence ws (name, bit)) (sorted-fold ds [] tt) (sorted-fold ((name, bit) ∷ []) ws (sorted-fold es [] tt))
    (λ other. mask_in-in_order_of ds distinct' other ∙ more other ∙ rw (mask_in-insert ws name _ other, had name, had other, united) refl)

-- names that are sorted and distinct rise
in_order-sorted : (es : List WordRow) → IsSorted name_cmp (keys_of es) → IsDistinct bytes_eq (keys_of es) → AreInOrder es
in_order-sorted es sorted distinct =
    let ks = keys_of es in
    sorted_from_all_adjacent nat_list_cmp_total ks [] (λ k inside.
    let a = get_or ks k [] in
    let b = get_or ks (k + 1) [] in
    let apart = apart_from_distinct bytes_eq ks k (k + 1) [] distinct (omega arith) inside in
    grind (arith, sorted k [] (omega arith) inside, apart, texts_ties a b, nat_list_cmp_total.antisymm b a))

-- the look-up of the order is that of equality
mask_in-lookup : (ws : List WordRow) (name : List ℕ) → mask_in ws name ≡ lookup (bytes_eq name) ws
mask_in-lookup [] name = refl
mask_in-lookup (w ∷ ws) name = rw (texts_ties name w.0, mask_in-lookup ws name) refl

-- what was gathered, sorted, is the ordered list
pub gathered_sorted : (es ds : List WordRow) → IsDistinct bytes_eq (keys_of es) → IsDistinct bytes_eq (keys_of ds) → IsSorted name_cmp (keys_of ds)
    → ((name : List ℕ) → lookup (bytes_eq name) ds ≡ lookup (bytes_eq name) es) → ds ≡ in_order_of es
gathered_sorted es ds distinct distinct' rising same =
    same_words ds (in_order_of es) ((sorted-is ds).1 (in_order-sorted ds rising distinct')) (sorted-fold es [] tt) (λ name.
    mask_in-lookup ds name ∙ same name ∙ sym (mask_in-in_order_of es distinct name))
