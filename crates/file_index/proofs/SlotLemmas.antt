-- The files that stand at places: what is found of each, their rows after one was written or emptied, and a walk over those that have a key.
use Rattle.file_index.proofs.Words.{◌≡◌, ℕ, zero, suc, ◌<◌, ◌≤◌, ◌+◌, Bool, true, false, cond, eqb, ltb, List, [], ◌∷◌, ◌++◌, length, Option, Some, None, refl}
use Rattle.file_index.proofs.Words.{sym, ap, ◌∙◌, arith, set, append_assoc, slice_index_or, is_some, not, unwrap_or, nat_cmp, lookup, is_at, filter, nat_tests}
use Rattle.file_index.proofs.Words.{get_or_past, get_or-set_same, get_or-set_other, set_past, set-get_or, filter-append, rows_in, rows_of, rows_in_file}
use Rattle.file_index.proofs.Words.{is_known, with_rows, without_file, standing_from, standing, ◌-◌, get_or, ⊎_elim, flat_map, IsStrictlySortedBy, cases_eq}
use Rattle.file_index.proofs.Words.{false≢true, false_from_ne_true, map-append, below_from_sorted, sorted_tail, has_key, rows_with, has_id, rows_at, shown}
use Rattle.file_index.proofs.Words.{walked, HasAllFiles}

module _ {X : Type 0} where
  -- before all places nothing stands
  none_below : (low place : ℕ) (slots : List (Option X)) → low < place → lookup (is_at (nat_cmp low)) (standing_from place slots) ≡ None
  none_below low place [] less = refl
  none_below low place (None ∷ slots) less = none_below low (suc place) slots (omega arith)
  none_below low place (Some x ∷ slots) less = grind (arith, nat_tests, none_below low (suc place) slots (omega arith))

  found_from : (place i j : ℕ) (slots : List (Option X)) → j ≡ place + i
      → lookup (is_at (nat_cmp j)) (standing_from place slots) ≡ slice_index_or slots i None
  found_from place i j [] at = refl
  found_from place zero j (None ∷ slots) at = none_below j (suc place) slots (omega arith)
  found_from place zero j (Some x ∷ slots) at = grind (arith, nat_tests)
  found_from place (suc i) j (None ∷ slots) at = found_from (suc place) i j slots (omega arith)
  found_from place (suc i) j (Some x ∷ slots) at = grind (arith, nat_tests, found_from (suc place) i j slots (omega arith))

  -- what is found of a file is what stands at its place
  found : (slots : List (Option X)) (file : ℕ) → lookup (is_at (nat_cmp file)) (standing slots) ≡ slice_index_or slots file None
  found slots file = found_from 0 file file slots (omega arith)

  -- what stands at each place after one was written; one past the end may only be emptied
  set_at : (slots : List (Option X)) (i j : ℕ) (x : Option X) → (length slots ≤ i → x ≡ None)
      → slice_index_or (set slots i x) j None ≡ cond (eqb j i) x (slice_index_or slots j None)
  set_at slots i j x past =
      let same = set_past slots i x in
      grind (arith, nat_tests, past, get_or_past slots i None, get_or-set_same slots i x None, get_or-set_other slots i j x None)

  -- a free place more at the end changes nothing
  pub widened : (place : ℕ) (slots : List (Option X)) → standing_from place (slots ++ None ∷ []) ≡ standing_from place slots
  widened place [] = refl
  widened place (None ∷ slots) = widened (suc place) slots
  widened place (Some x ∷ slots) = rw (widened (suc place) slots) refl

-- after a file was given other rows, or taken out: the rows, those of each file, and which files are known
pub record HasWritten {K V : Type 0} (file : ℕ) (now : Option (List (K × V))) (old new : List (ℕ × List (K × V))) : Type 0 where
  pub rows : rows_of new ≡ with_rows file (unwrap_or now []) (rows_of old)
  pub each : (j : ℕ) → rows_in_file j new ≡ cond (eqb j file) (unwrap_or now []) (rows_in_file j old)
  pub known : (j : ℕ) → is_known j new ≡ cond (eqb j file) (is_some now) (is_known j old)

-- what a test keeps is kept by each test that it implies
kept_twice : {X : Type 0} (p q : X → Bool) → ((x : X) → p x ≡ true → q x ≡ true) → (xs : List X) → filter q (filter p xs) ≡ filter p xs
kept_twice p q implied [] = refl
kept_twice p q implied (x ∷ xs) = grind (arith, implied x, kept_twice p q implied xs)

module _ {K V : Type 0} where
  -- the rows from a place on are those that stand there, and those from the next place on
  pub from_place : (place : ℕ) (s : Option (List (K × V))) (slots : List (Option (List (K × V))))
      → rows_of (standing_from place (s ∷ slots)) ≡ rows_in place (unwrap_or s []) ++ rows_of (standing_from (suc place) slots)
  from_place place None slots = refl
  from_place place (Some rows) slots = refl

  module _ (p : ℕ → Bool) where
    -- of the rows of one file a test of files keeps all or none
    filter-in : (file : ℕ) (rows : List (K × V)) → filter (λ row. p row.0) (rows_in file rows) ≡ cond (p file) (rows_in file rows) []
    filter-in file [] = grind arith
    filter-in file (r ∷ rs) = grind (arith, filter-in file rs)

    filter-first : (place : ℕ) (s : Option (List (K × V))) (slots : List (Option (List (K × V))))
        → filter (λ row. p row.0) (rows_of (standing_from place (s ∷ slots)))
        ≡ cond (p place) (rows_in place (unwrap_or s [])) [] ++ filter (λ row. p row.0) (rows_of (standing_from (suc place) slots))
    filter-first place s slots =
        let parts = filter-append (λ row. p row.0) (rows_in place (unwrap_or s [])) (rows_of (standing_from (suc place) slots)) in
        rw (from_place place s slots) (rw (parts, filter-in place (unwrap_or s [])) refl)

    -- and of those from a place on, where it answers the same of all these files
    filter-from : (b : Bool) (place : ℕ) (slots : List (Option (List (K × V)))) → ((k : ℕ) → place ≤ k → p k ≡ b)
        → filter (λ row. p row.0) (rows_of (standing_from place slots)) ≡ cond b (rows_of (standing_from place slots)) []
    filter-from b place [] is = grind arith
    filter-from b place (s ∷ slots) is =
        let rest = filter-from b (suc place) slots (λ k l. is k (omega arith)) in
        rw (filter-first place s slots, from_place place s slots, is place (omega arith), rest) (grind arith)

  -- the rows after one place was written
  rows_from : (place i file : ℕ) (slots : List (Option (List (K × V)))) (x : Option (List (K × V))) → file ≡ place + i → (length slots ≤ i → x ≡ None)
      → rows_of (standing_from place (set slots i x)) ≡ with_rows file (unwrap_or x []) (rows_of (standing_from place slots))
  rows_from place i file [] x at past = rw (past (omega arith)) refl
  rows_from place zero file (s ∷ slots) x at past =
      let none = filter-from (λ k. ltb k file) false (suc place) slots (λ k l. grind (arith, nat_tests)) in
      let all = filter-from (λ k. ltb file k) true (suc place) slots (λ k l. grind (arith, nat_tests)) in
      grind (arith, nat_tests, from_place place x slots, filter-first (λ k. ltb k file) place s slots, filter-first (λ k. ltb file k) place s slots)
  rows_from place (suc i) file (s ∷ slots) x at past =
      let parts = from_place place s (set slots i x) in
      let rest = rows_from (suc place) i file slots x (omega arith) (λ l. past (omega arith)) in
      grind (arith, nat_tests, append_assoc, parts, filter-first (λ k. ltb k file) place s slots, filter-first (λ k. ltb file k) place s slots)

  module _ (slots : List (Option (List (K × V)))) (files : List (ℕ × List (K × V))) (seen : standing slots ≡ files) (file : ℕ) where
    -- what is found of a file is what stands at its place
    pub found_in : lookup (is_at (nat_cmp file)) files ≡ slice_index_or slots file None
    found_in = rw (← seen) (found slots file)

    -- a file that is known has a place
    pub inside : is_known file files ≡ true → file < length slots
    inside known = grind (arith, nat_tests, found_in, get_or_past slots file None)

    -- what a file has after its place was written or emptied
    pub written : (x : Option (List (K × V))) (new : List (Option (List (K × V)))) → new ≡ set slots file x → (length slots ≤ file → x ≡ None)
        → HasWritten file x files (standing new)
    written x new is past = rw (is, ← seen) (record {
      rows = rows_from 0 file file slots x (omega arith) past;
      each = λ j. grind (arith, found slots j, found (set slots file x) j, set_at slots file j x past);
      known = λ j. grind (arith, found slots j, found (set slots file x) j, set_at slots file j x past);
    })

    -- the rows are those of the files below, its own and those of the files above
    itself : with_rows file (rows_in_file file files) (rows_of files) ≡ rows_of files
    itself =
        let same = (written (slice_index_or slots file None) slots (sym (set-get_or slots file None)) (get_or_past slots file None)).rows in
        rw found_in (sym (rw seen at same))

    -- without a file's rows is with none in their place
    pub without_is : without_file file (rows_of files) ≡ with_rows file [] (rows_of files)
    without_is =
        let other : ℕ × (K × V) → Bool = λ row. not (eqb row.0 file) in
        let below = kept_twice (λ row. ltb row.0 file) other (λ row e. grind (arith, nat_tests)) (rows_of files) in
        let above = kept_twice (λ row. ltb file row.0) other (λ row e. grind (arith, nat_tests)) (rows_of files) in
        ap (filter other) (sym itself) ∙ simp filter-append (grind (arith, nat_tests, filter-in (λ k. not (eqb k file)) file (rows_in_file file files)))

    -- where a file has no rows, none go with it
    pub nothing_goes : rows_in_file file files ≡ [] → with_rows file [] (rows_of files) ≡ rows_of files
    nothing_goes none = rw none at itself

-- ids that rise, the first of them from a number on
abbrev Rises : ℕ → List ℕ → Type 0
Rises low [] = Unit {0}
Rises low (id ∷ ids) = (low ≤ id) × Rises (suc id) ids

rises_from : (low : ℕ) (ids : List ℕ) → ((k : ℕ) → k < length ids → low ≤ get_or ids k 0) → IsStrictlySortedBy nat_cmp ids → Rises low ids
rises_from low [] above rises = tt
rises_from low (id ∷ ids) above rises = (
  above 0 (omega arith),
  rises_from (suc id) ids (λ k l. below_from_sorted (id ∷ ids) 0 (suc k) 0 rises (omega arith) (omega arith)) (sorted_tail nat_cmp id ids rises),
)

-- an id below all isn't among them
absent : (id low : ℕ) (ids : List ℕ) → id < low → Rises low ids → has_id id ids ≡ false
absent id low [] less rises = refl
absent id low (j ∷ js) less rises = grind (arith, nat_tests, absent id (suc j) js (omega arith) rises.1)

module _ {K V : Type 0} (eq : K → K → Bool) (key : K) where
  -- what a file shows under the key
  abbrev seen : ℕ → List (K × V) → List (ℕ × V)
  seen file rows = shown file (rows_with eq key rows)

  rows_at-in : (file : ℕ) (rows : List (K × V)) → rows_at eq key (rows_in file rows) ≡ seen file rows
  rows_at-in file [] = refl
  rows_at-in file (r ∷ rs) = grind (arith, rows_at-in file rs)

  none_seen : (file : ℕ) (rows : List (K × V)) → has_key eq key rows ≡ false → seen file rows ≡ []
  none_seen file [] none = refl
  none_seen file (r ∷ rs) none = grind (arith, none_seen file rs)

  -- the rows under the key from a place on
  rows_at-from : (place : ℕ) (s : Option (List (K × V))) (slots : List (Option (List (K × V))))
      → rows_at eq key (rows_of (standing_from place (s ∷ slots))) ≡ seen place (unwrap_or s []) ++ rows_at eq key (rows_of (standing_from (suc place) slots))
  rows_at-from place s slots = rw (from_place place s slots) (simp (filter-append, map-append, rows_at-in place (unwrap_or s [])))

  module _ (look : ℕ → List (ℕ × V)) where
    nothing : (place : ℕ) (ids : List ℕ) → Rises place ids → ((j : ℕ) → place ≤ j → look j ≡ []) → flat_map look ids ≡ []
    nothing place [] rises none = refl
    nothing place (id ∷ ids) rises none = rw (none id rises.0, nothing (suc id) ids rises.1 (λ j l. none j (omega (arith, rises.0)))) refl

    -- the rows under the key that are found from a place on
    abbrev Meets : ℕ → List (Option (List (K × V))) → List ℕ → Type 0
    Meets place slots ids = flat_map look ids ≡ rows_at eq key (rows_of (standing_from place slots))

    -- a place where nothing is looked up may be skipped
    skips : (place : ℕ) (s : Option (List (K × V))) (slots : List (Option (List (K × V)))) (ids : List ℕ) → look place ≡ seen place (unwrap_or s [])
        → look place ≡ [] → Meets (suc place) slots ids → Meets place (s ∷ slots) ids
    skips place s slots ids own none rest = rw (rows_at-from place s slots, ← own, none) rest

    -- ids that rise meet all rows, where each shows its own and one that isn't walked has none
    meets : (place : ℕ) (slots : List (Option (List (K × V)))) (ids : List ℕ) → Rises place ids
        → ((i j : ℕ) → j ≡ place + i → look j ≡ seen j (unwrap_or (slice_index_or slots i None) []))
        → ((j : ℕ) → place ≤ j → has_id j ids ≡ false → look j ≡ [])
        → Meets place slots ids
    meets place [] ids rises looks all = nothing place ids rises (λ j l. looks (j - place) j (omega arith))
    meets place (s ∷ slots) [] rises looks all = skips place s slots [] (looks 0 place (omega arith)) (all place (omega arith) refl)
        (meets (suc place) slots [] tt (λ i j e. looks (suc i) j (omega arith)) (λ j l. all j (omega arith)))
    meets place (s ∷ slots) (id ∷ ids) rises looks all = ⊎_elim
        (λ same.
        let rest = meets (suc place) slots ids (rw (← same) rises.1) (λ i j e. looks (suc i) j (omega arith))
        (λ j l away. all j (omega arith) (grind (arith, nat_tests))) in
        rw (rows_at-from place s slots, ← looks 0 place (omega arith), same) (ap (λ l. look place ++ l) rest))
        (λ apart. let above : Rises (suc place) (id ∷ ids) = (omega (arith, apart, rises.0), rises.1) in
        skips place s slots (id ∷ ids) (looks 0 place (omega arith)) (all place (omega arith) (absent place (suc place) (id ∷ ids) (omega arith) above))
        (meets (suc place) slots (id ∷ ids) above (λ i j e. looks (suc i) j (omega arith)) (λ j l. all j (omega arith))))
        (cases_eq id place)

  -- a walk over all files that have rows under the key gives the rows under it
  pub walk_meets : (slots : List (Option (List (K × V)))) (files : List (ℕ × List (K × V))) → standing slots ≡ files
      → (ids : List ℕ) → IsStrictlySortedBy nat_cmp ids → HasAllFiles eq key files ids → walked eq key files ids ≡ rows_at eq key (rows_of files)
  walk_meets slots files at ids rises all = rw (← at) (meets (λ id. seen id (rows_in_file id (standing slots))) 0 slots ids
      (rises_from 0 ids (λ k l. omega arith) rises)
      (λ i j e. let same : j ≡ i = omega arith in rw (found_in slots (standing slots) refl j, same) refl)
      (λ j l away. none_seen j (rows_in_file j (standing slots)) (false_from_ne_true _ (λ has. false≢true (sym away ∙ all j (rw (← at) has))))))
