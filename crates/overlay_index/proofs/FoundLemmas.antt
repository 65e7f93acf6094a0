-- What a name finds, file after file.
use Rattle.overlay_index.proofs.Words.{◌≡◌, ℕ, zero, suc, ◌+◌, ◌<◌, ◌≤◌, true, false, List, [], ◌∷◌, filter, refl, sym, ap, ◌∙◌, arith, option_to_list, nat_cmp}
use Rattle.overlay_index.proofs.Words.{is_eq, keys_of, texts_ties, bytes_decides, sorted_head, sorted_tail, WordRow, name_cmp, mask_in, AreInOrder, Less}
use Rattle.overlay_index.proofs.Words.{bytes_eq, AllByRecursion, nat_tests, has_id, rows_in_file, HasAllFiles, walked, nat_cmp_is, values_of, found_from, Parts}
use Rattle.overlay_index.proofs.Words.{no_parts, inl, inr}
use Rattle.std.proofs.lemmas.Simd.{map-map}
use Rattle.std.proofs.lemmas.Bool.{cases_Bool}
use Rattle.std.specs.List.Sorted.{IsStrictlySortedBy}

-- so many ids from the first on
pub ids_from : ℕ → ℕ → List ℕ
ids_from first zero = []
ids_from first (suc count) = first ∷ ids_from (suc first) count

above : (low first count : ℕ) → low < first → AllByRecursion (λ id. nat_cmp low id ≡ Less) (ids_from first count)
unfolding ids_from
above low first zero less = tt
above low first (suc count) less = (sym (nat_cmp_is low first Less less), above low (suc first) count (omega (arith, less)))

-- they rise
pub ids_rise : (first count : ℕ) → IsStrictlySortedBy nat_cmp (ids_from first count)
unfolding IsStrictlySortedBy ids_from
ids_rise first zero = tt
ids_rise first (suc count) = (above first (suc first) count (omega arith), ids_rise (suc first) count)

-- and each id between the first and the last is among them
pub among : (id first count : ℕ) → first ≤ id → id < first + count → has_id id (ids_from first count) ≡ true
unfolding ids_from
among id first zero low high = absurd (omega (arith, low, high))
among id first (suc count) low high = grind (arith, nat_tests, among id (suc first) count)

module _ {V : Type 0} (name : List ℕ) (files : List (ℕ × List (List ℕ × V))) where
  walked_is_found : (first count : ℕ) → walked bytes_eq name files (ids_from first count)
      ≡ found_from (λ id. values_of name (rows_in_file id files)) first count
  unfolding ids_from
  walked_is_found first zero = refl
  walked_is_found first (suc count) = rw (map-map, walked_is_found (suc first) count) refl

  -- where no other file has a row, the ids from 1 to the last are all files
  all_files : (last : ℕ) → rows_in_file 0 files ≡ [] → ((file : ℕ) → last < file → rows_in_file file files ≡ [])
      → HasAllFiles bytes_eq name files (ids_from 1 last)
  all_files last first rest file has = grind (arith, among file 1 last, rest file)

-- a walk over the rows of a kind under a name finds what each file shows under it
pub walk_finds : {V : Type 0} (name : List ℕ) (parts : ℕ → Parts) (kind : Parts → List (List ℕ × V)) (files : List (ℕ × List (List ℕ × V)))
    → ((id : ℕ) → rows_in_file id files ≡ kind (parts id)) → kind no_parts ≡ [] → (result : List (ℕ × V))
    → ((ids : List ℕ) → IsStrictlySortedBy nat_cmp ids → HasAllFiles bytes_eq name files ids → result ≡ walked bytes_eq name files ids)
    → (last : ℕ) → (parts 0 ≡ no_parts) × ((file : ℕ) → last < file → parts file ≡ no_parts)
    → result ≡ found_from (λ id. values_of name (kind (parts id))) 1 last
walk_finds name parts kind files of none result by_files last full =
    by_files (ids_from 1 last) (ids_rise 1 last)
    (all_files name files last (of 0 ∙ ap kind full.0 ∙ none) (λ file past. of file ∙ ap kind (full.1 file past) ∙ none))
    ∙ walked_is_found name files 1 last
    ∙ (λ i. found_from (λ id. values_of name (of id i)) 1 last)

module _ (name : List ℕ) where
  none_above : (word : List ℕ) (ws : List WordRow) → bytes_eq name word ≡ true → AllByRecursion (λ key. name_cmp word key ≡ Less) (keys_of ws)
      → filter (λ (row : WordRow). bytes_eq name row.0) ws ≡ []
  none_above word [] same all = refl
  none_above word (w ∷ ws) same all =
      let less : name_cmp name w.0 ≡ Less = ap (λ n. name_cmp n w.0) ((bytes_decides name word).0 same) ∙ all.0 in
      let other : bytes_eq name w.0 ≡ false = texts_ties name w.0 ∙ ap is_eq less in
      rw other (none_above word ws same all.1)

  -- a word stands once among words in order
  pub mask_found : (ws : List WordRow) → AreInOrder ws → values_of name ws ≡ option_to_list (mask_in ws name)
  mask_found [] rise = refl
  mask_found (w ∷ ws) rise =
      rw (← texts_ties name w.0) (elim (cases_Bool (bytes_eq name w.0)) [
        | inl same ↦ rw (same, none_above w.0 ws same (sorted_head name_cmp w.0 (keys_of ws) rise)) refl
        | inr other ↦ rw other (mask_found ws (sorted_tail name_cmp w.0 (keys_of ws) rise))
      ])
