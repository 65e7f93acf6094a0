-- The rows that a list of stubs gives: which stand under a name, and their order.
use Rattle.stub_index.proofs.Words.{◌≡◌, ℕ, ◌≤◌, Bool, ◌&&◌, cond, List, [], ◌∷◌, map, filter, refl, ◌∙◌, map-map, map-id, arith, Ordering, Option, None, Some}
use Rattle.stub_index.proofs.Words.{nat_cmp, Less, slice_cmp, nat_list_cmp_total, bytes_decides, bytes_eq, AllByRecursion, nat_tests, tied_itself}
use Rattle.stub_index.proofs.Words.{filter-append, recursion_from_All, All-from_recursion, All-map, IsStrictlySortedBy-filter, AreInOrder, by_keys, rows_with}
use Rattle.stub_index.proofs.Words.{row_cmp, values_with, Stub, IsLawfulAfter, IsLawfulList, has_name, distinct_names, rows_under, rows_named}
use Rattle.std.specs.List.Sorted.{IsStrictlySortedBy}
use Rattle.stub_index.specs.Named.{rows_by_name}

module _ (key : List ℕ) where
  -- of two stubs under one name the one with the lower offset comes first
  abbrev keyed_cmp : List ℕ × Stub → List ℕ × Stub → Ordering
  keyed_cmp = row_cmp (slice_cmp nat_cmp) (λ (s : Stub). s.at)

  -- each stub of a lawful list is below those after it
  below : (s t : Stub) (ts : List Stub) → s.at ≤ t.at → IsLawfulAfter (Some t) ts → AllByRecursion (λ other. keyed_cmp (key, s) (key, other) ≡ Less) ts
  below s t [] le lawful = tt
  below s t (u ∷ us) le lawful =
      (grind (arith, nat_tests, tied_itself nat_list_cmp_total key, lawful.1.2, le), below s u us (omega (arith, lawful.1.2, le)) lawful.2)

  rise : (before : Option Stub) (ss : List Stub) → IsLawfulAfter before ss → IsStrictlySortedBy (λ s t. keyed_cmp (key, s) (key, t)) ss
  unfolding IsStrictlySortedBy
  rise before [] lawful = tt
  rise before (s ∷ ss) lawful = (below s s ss (omega arith) lawful.2, rise (Some s) ss lawful.2)

  keyed_in_order : (ss : List Stub) → IsStrictlySortedBy (λ s t. keyed_cmp (key, s) (key, t)) ss → IsStrictlySortedBy keyed_cmp (map (λ s. (key, s)) ss)
  unfolding IsStrictlySortedBy
  keyed_in_order [] rises = tt
  keyed_in_order (s ∷ ss) rises =
      (recursion_from_All _ _ (All-map (λ row. keyed_cmp (key, s) row ≡ Less) (λ t. (key, t)) ss (All-from_recursion _ ss rises.0)), keyed_in_order ss rises.1)

  module _ (names : Stub → List (List ℕ)) (test : Stub → Bool)
      (each : (s : Stub) → rows_with bytes_eq key (rows_under (names s) s) ≡ cond (test s) ((key, s) ∷ []) []) where
    -- under a key stand the stubs that fit
    rows_found : (ss : List Stub) → rows_with bytes_eq key (rows_named names ss) ≡ map (λ s. (key, s)) (filter test ss)
    rows_found [] = refl
    rows_found (s ∷ ss) =
        rw (filter-append (λ row. bytes_eq key row.0) (rows_under (names s) s) (rows_named names ss), each s, rows_found ss) (grind arith)

    -- and they are in order
    pub found_in_order : (ss : List Stub) → IsLawfulList ss → AreInOrder (slice_cmp nat_cmp) (λ (t : Stub). t.at) (rows_with bytes_eq key (rows_named names ss))
    found_in_order ss lawful = rw (rows_found ss) (keyed_in_order (filter test ss) (IsStrictlySortedBy-filter _ test ss (rise None ss lawful)))

    -- also where rows were sorted by their keys, which keeps those of each key as they came
    pub found_values : ((rows : List (List ℕ × Stub)) → rows_with bytes_eq key (by_keys (slice_cmp nat_cmp) rows) ≡ rows_with bytes_eq key rows)
        → (ss : List Stub) → values_with bytes_eq key (rows_by_name names ss) ≡ filter test ss
    unfolding rows_by_name
    found_values keeps ss = rw (keeps (rows_named names ss), rows_found ss)
        (map-map (λ (row : List ℕ × Stub). row.1) (λ s. (key, s)) (filter test ss) ∙ map-id (filter test ss))

  -- a stub that is found by one name, if at all, is found under it
  pub one_name : (name : List ℕ) (s : Stub) (b : Bool)
      → rows_with bytes_eq key (rows_under (cond b (name ∷ []) []) s) ≡ cond (b && bytes_eq key name) ((key, s) ∷ []) []
  one_name name s b = let same = (bytes_decides key name).0 in grind (arith, same)

  once : (s : Stub) (names : List (List ℕ)) → rows_with bytes_eq key (rows_under (distinct_names names) s) ≡ cond (has_name key names) ((key, s) ∷ []) []
  once s [] = refl
  once s (name ∷ names) = let same = (bytes_decides key name).0 in grind (arith, same, once s names)

  -- and one that is found by its supers once under each
  pub by_supers : (s : Stub) (b : Bool)
      → rows_with bytes_eq key (rows_under (cond b (distinct_names s.supers) []) s) ≡ cond (b && has_name key s.supers) ((key, s) ∷ []) []
  by_supers s b = grind (arith, once s s.supers)
