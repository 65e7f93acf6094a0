-- What is found in the files of a world: where it stands, its rows, the types and the uses of a name.
pub use Rattle.query_engine.proofs.Words.{◌≢◌, ℕ, suc, ◌≡◌, ◌≤◌, ◌<◌, ◌+◌, true, Bool, List, [], ◌∷◌, map, filter, length, drop, get_or, Option, Some, None}
pub use Rattle.query_engine.proofs.Words.{IsSome, option_map, position, All, refl, ap, sym, ◌∙◌, le_refl, le_trans, arith, option_map_or, bytes_eq, cond_both}
pub use Rattle.query_engine.proofs.Words.{cases_Bool, ◌&&◌, fun_ext, drop_more, All-head, All-tail, Stub, IsLawfulList, IsLawfulAfter, listing_of, IsNamedIn}
pub use Rattle.query_engine.proofs.Words.{RiseFrom, World, File, file_of, id_at, has_path, shown_text, AreFrom, text_at, itself, stub_at, IfSome, false, ◌++◌}
pub use Rattle.query_engine.proofs.Words.{common_steps, map-append, All-nil, All-append, All-map, max_chars, Java, Properties, keys_of, places_of_key}
pub use Rattle.query_engine.proofs.Words.{lowest_unready, found, found_from, stubs_in, masks_in, of_files, of_world, word_in, Listed, AreLive, AreAhead}
pub use Rattle.query_engine.proofs.Words.{listed_at, offset_in, path_at, word_found, ◌/◌, subst, inl, inr, AllPairs, filter-append, AllPairs-filter}
pub use Rattle.query_engine.proofs.Words.{is_type, has_super, ListedType, StandsBefore, met_count, rows_a_look, MayLook, types_in, types_of, take, IsSomeAnd}
pub use Rattle.query_engine.proofs.Words.{option_to_list, Ok, append_assoc, flat_map, flat_map-append, length-append, Usages, AskRefusal, NotReady, PlaceRow}
pub use Rattle.query_engine.proofs.Words.{place_row, uses_in, reply, LooksThrough, first_uses, has_code, uses_at, uses_found, not-true, not-false, rules}
pub use Rattle.query_engine.proofs.Words.{eqb-true, nil_from_length, AskedEach, Finding, OutOfMemory, nat_tests, AllByRecursion}
pub use Rattle.query_engine.proofs.Words.{recursion_from_All, filter_passes}
use Rattle.std.proofs.Math.ListN.{drop_of_length-le}
use Rattle.std.proofs.Math.Seq.{take-nil}
use Rattle.std.proofs.lemmas.List.Quantifiers.{position-Some}
use Rattle.std.proofs.lemmas.Option.{IfSome_then}
use Rattle.std.proofs.lemmas.Simd.{map-map}
use Rattle.dumb_mode.specs.declared.kind.FileKind.{FileKind}
use Rattle.dumb_mode.specs.Filter.{has_kind}
use Rattle.query_engine.specs.declared.answer.WordRow.{WordRow}
use Rattle.query_engine.proofs.MemberLemmas.{filter_all, filter_two, filter_of_map, pairs_nil, pairs_append, pairs_map}
use Rattle.java_tokens.specs.Places.{places_of, is_in_code, RiseFrom as PlacesRise}
use Rattle.java_tokens.specs.Words.{words_of, mask_in}
use Rattle.query_engine.proofs.LookLemmas.{looked_through}
use Rattle.queries.specs.declared.query.Query.TheVariants as query

-- ---- where what is found stands in its files

-- the next of a list, and those behind it
pub next_left : {X : Type 0} (xs : List X) (i : ℕ) {x : X} → i < length xs → x ≡ get_or xs i x → drop i xs ≡ x ∷ drop (i + 1) xs
next_left xs i {x} inside is = drop_more xs i x inside ∙ ap (λ y. y ∷ drop (i + 1) xs) (sym is)

module _ {X : Type 0} (at_of : X → ℕ) (len : ℕ) where
  -- what stands at rising offsets from one on does so from a lower one
  pub from_lower : (low at : ℕ) (xs : List X) → low ≤ at → AreFrom at_of len at xs → AreFrom at_of len low xs
  from_lower low at [] le h = tt
  from_lower low at (x ∷ xs) le h = (le_trans le h.0, h.1, h.2)

  -- of what stands so those that pass a test do
  pub from_filter : (fits : X → Bool) (low at : ℕ) (xs : List X) → low ≤ at → AreFrom at_of len at xs → AreFrom at_of len low (filter fits xs)
  from_filter fits low at [] le h = tt
  from_filter fits low at (x ∷ xs) le h =
      cond_both (fits x) (x ∷ filter fits xs) (filter fits xs) (AreFrom at_of len low)
      (λ fit. (le_trans le h.0, h.1, from_filter fits (at_of x) (at_of x) xs (le_refl (at_of x)) h.2))
      (λ unfit. from_filter fits low (at_of x) xs (le_trans le h.0) h.2)

-- the declarations of a lawful list that are named in a text: a name that isn't empty stands inside
pub from_lawful : (text : List ℕ) (before : Option Stub) (stubs : List Stub) → IsLawfulAfter before stubs → All (IsNamedIn text) stubs
    → AreFrom stub_at (length text) (option_map_or stub_at before 0) stubs
from_lawful text before [] lawful named = tt
from_lawful text before (s ∷ stubs) lawful named =
    let it = All-head (IsNamedIn text) s stubs named in
    let beyond = drop_of_length-le text {i = it.token.at} in
    let inside : s.at ≤ length text = grind (arith, it.place, it.name, lawful.0.named.some, beyond, take-nil {A = ℕ} it.token.len) in
    (grind (arith, lawful.1), inside, from_lawful text (Some s) stubs lawful.2 (All-tail (IsNamedIn text) s stubs named))

-- the places of a property key among keys that rise, from an offset that isn't behind them
pub from_keys : (key : List ℕ) (low from len : ℕ) (rows : List (List ℕ × ℕ)) → low ≤ from → RiseFrom from len rows
    → AreFrom itself len low (map (λ row. row.1) (filter (λ row. bytes_eq key row.0) rows))
from_keys key low from len [] h rise = tt
from_keys key low from len (row ∷ rows) h (some, behind, inside, rest) =
    let others : List (List ℕ × ℕ) = filter (λ row. bytes_eq key row.0) rows in
    cond_both (bytes_eq key row.0) (row ∷ others) others (λ rows. AreFrom itself len low (map (λ row. row.1) rows))
    (λ this. (le_trans h behind, omega arith, from_keys key row.1 (suc row.1) len rows (omega arith) rest))
    (λ other. from_keys key low (suc row.1) len rows (omega arith) rest)

-- what a reader gives of a file is what the file has
pub read_found : (read : File → List ℕ) (o : Option File) {x : List ℕ} → Some x ≡ option_map read o → x ≡ option_map_or read o []
read_found read None is = absurd cc
read_found read (Some file) is = cc

-- the file with the id of a path is live
pub id_live : (world : World) (path : List ℕ) {id : ℕ} → Some id ≡ id_at world path → IsSome (file_of world id)
id_live world path {id} is =
    let there = λ (i : ℕ) (at : position (has_path path) world.files ≡ Some i). (position-Some (has_path path) world.files i None at).1 in
    grind (arith, is, there)

-- so its text is there
pub text_there : (o : Option File) → None ≡ option_map shown_text o → IsSome o → ⊥
text_there None none some = absurd cc
text_there (Some file) none some = absurd cc

-- the declarations of a file stand in its text
pub listing_from : ((text : List ℕ) → All (IsNamedIn text) (listing_of text)) → (world : World) (id : ℕ) {text : List ℕ} {stubs shown : List Stub}
    → Some text ≡ option_map shown_text (file_of world id) → shown ≡ stubs → IsLawfulList stubs → stubs ≡ listing_of text
    → AreFrom stub_at (length (text_at world id)) 0 shown
listing_from named world id {text} {stubs} is same lawful listed =
    rw (same, sym (read_found shown_text (file_of world id) is)) (from_lawful text None stubs lawful (rw listed (named text)))

-- ---- what is found in the files of a world

-- the row that is made for a word
pub word_row_made : (world : World) {id mask : ℕ} {path : List ℕ} → Some path ≡ option_map (λ file. file.path) (file_of world id)
    → ◌≡◌ {A = WordRow} (record { file = id; path = path; mask = mask }) (word_found world (id, mask))
word_row_made world {id} {mask} is = ap (λ p. record { file = id; path = p; mask = mask }) (read_found (λ file. file.path) (file_of world id) is)

-- what is left is of live files
pub live_rest : {X : Type 0} (world : World) {x : ℕ × X} {left left' : List (ℕ × X)} → left ≡ x ∷ left' → AreLive world left → AreLive world left'
live_rest {X} world {x} {left' = left'} next h = All-tail (λ (f : ℕ × X). IsSome (file_of world f.0)) x left' (rw next at h)

-- a law of what is found from an id on, with the rows that the files give from there
module _ {X R : Type 0} (kind : FileKind) (read : List ℕ → List X) (rows : ℕ → File → List R) (world : World) (P : ℕ → List (ℕ × X) → List R → Type 0)
    (none : (id : ℕ) → P id [] []) (skip : (id : ℕ) (xs : List (ℕ × X)) (rs : List R) → P (id + 1) xs rs → P id xs rs)
    (more : (id : ℕ) (file : File) (xs : List (ℕ × X)) (rs : List R) → file_of world id ≡ Some file → P (id + 1) xs rs
    → P id (map (λ x. (id, x)) (read (shown_text file)) ++ xs) (rows id file ++ rs)) where
  law_from : (id : ℕ) (files : List (Option File)) → ((k place : ℕ) → place ≡ id + k → file_of world place ≡ get_or files k None)
      → P id (found_from kind read id files) (of_files kind rows id files)
  law_from id [] at = none id
  law_from id (None ∷ files) at = skip id _ _ (law_from (id + 1) files (λ k place is. at (suc k) place (omega (arith, is))))
  law_from id (Some file ∷ files) at =
      let rest = law_from (id + 1) files (λ k place is. at (suc k) place (omega (arith, is))) in
      elim (cases_Bool (has_kind kind file.path)) [
        | inl has ↦ rw has (more id file _ _ (at 0 id (omega arith)) rest)
        | inr not ↦ rw not (skip id _ _ rest)
      ]

  pub found_law : P 1 (found kind read world) (of_world kind rows world)
  found_law = law_from 1 world.files (λ k place is. let e : place ≡ suc k = omega (arith, is) in rw e refl)

-- what is made of all that is found is what the files give, where of each file's it is what that file gives
pub rows_found : {X R : Type 0} (kind : FileKind) (made : List (ℕ × X) → List R)
    → ((xs ys : List (ℕ × X)) → made (xs ++ ys) ≡ made xs ++ made ys) → made [] ≡ [] → (read : List ℕ → List X) (rows : ℕ → File → List R) (world : World)
    → ((id : ℕ) (file : File) → file_of world id ≡ Some file → made (map (λ x. (id, x)) (read (shown_text file))) ≡ rows id file)
    → made (found kind read world) ≡ of_world kind rows world
rows_found {X} kind made joins none read rows world each =
    found_law kind read rows world (λ id xs rs. made xs ≡ rs) (λ id. none) (λ id xs rs h. h)
    (λ id file xs rs is h. let here : List (ℕ × X) = map (λ x. (id, x)) (read (shown_text file)) in cc (joins here xs, each id file is))

-- what is found is what each file gives, with its id
pub found_is : {X : Type 0} (kind : FileKind) (read : List ℕ → List X) (world : World)
    → found kind read world ≡ of_world kind (λ id file. map (λ x. (id, x)) (read (shown_text file))) world
found_is kind read world = rows_found kind (λ xs. xs) (λ xs ys. refl) refl read _ world (λ id file is. refl)

-- the rows of what is found, each made by its file's id, path and text, are those of the files
pub placed_found : {X R : Type 0} (kind : FileKind) (row : ℕ → List ℕ → List ℕ → X → R) (read : List ℕ → List X) (rows : ℕ → File → List R) (world : World)
    → ((id : ℕ) (file : File) → map (row id file.path (shown_text file)) (read (shown_text file)) ≡ rows id file)
    → map (λ f. row f.0 (path_at world f.0) (text_at world f.0) f.1) (found kind read world) ≡ of_world kind rows world
placed_found {X} kind row read rows world each =
    rows_found kind (map (λ (f : ℕ × X). row f.0 (path_at world f.0) (text_at world f.0) f.1)) (map-append _) refl read rows world
    (λ id file is. simp (map-map, is) (each id file))

-- the rows of a word that is found
pub word_rows_found : (name : List ℕ) (world : World) → map (word_found world) (found Java (masks_in name) world) ≡ of_world Java (word_in name) world
word_rows_found name world =
    placed_found Java (λ id path text mask. record { file = id; path = path; mask = mask }) (masks_in name) (word_in name) world
    (λ id file. grind (arith, common_steps))

-- what a walk finds where no file is unready
abbrev pub Finds : {X : Type 0} → World → List (ℕ × X) → List (ℕ × X) → Type 0
Finds world walk found = lowest_unready world ≡ None → walk ≡ found

-- what is found is of live files
pub live_found : {X : Type 0} (read : List ℕ → List X) (world : World) {walk : List (ℕ × X)} → Finds world walk (found Java read world)
    → lowest_unready world ≡ None → AreLive world walk
live_found {X} read world ready smart =
    let live = λ (f : ℕ × X). IsSome (file_of world f.0) in
    rw (ready smart) (found_law {R = ℕ} Java read (λ id file. []) world (λ id xs rs. All live xs) (λ id. All-nil live) (λ id xs rs h. h)
    (λ id file xs rs is h. All-append live (map (λ x. (id, x)) (read (shown_text file))) xs (All-map live _ _ (λ k d inside. rw is refl)) h))

-- what is read of texts that aren't too long stands there at rising offsets: so what is found of it, and passes a test, stands one ahead of another
module _ {X : Type 0} (at_of : X → ℕ) (world : World) (kept : ℕ × X → Bool) where
  -- what one file gives, in front of what stands ahead in those behind it
  ahead_more : (id : ℕ) (here : List X) (xs : List (ℕ × X)) (before : Option Listed) → IsSome (file_of world id) → IfSome before (λ l. l.id ≤ id)
      → (length (text_at world id) ≤ max_chars → AreFrom at_of (length (text_at world id)) (offset_in before id) here)
      → ((last : Option Listed) → IfSome last (λ l. l.id ≤ id) → AreAhead at_of world last (filter kept xs))
      → AreAhead at_of world before (filter kept (map (λ x. (id, x)) here ++ xs))
  ahead_more id [] xs before live low stand rest = rest before low
  ahead_more id (x ∷ here) xs before live low stand rest =
      let this : Option Listed = Some (listed_at world id (at_of x)) in
      let there : offset_in this id ≡ at_of x = grind (arith, nat_tests) in
      let len : ℕ = length (text_at world id) in
      cond_both (kept (id, x)) _ _ (AreAhead at_of world before)
      (λ fit. (live, (λ short. ((stand short).0, (stand short).1)), ahead_more id here xs this live (le_refl id) (λ short. rw there (stand short).2) rest))
      (λ unfit. ahead_more id here xs before live low
      (λ short. from_lower at_of len (offset_in before id) (at_of x) here (stand short).0 (stand short).2) rest)

  pub found_ahead : (kind : FileKind) (read : List ℕ → List X) → ((text : List ℕ) → length text ≤ max_chars → AreFrom at_of (length text) 0 (read text))
      → AreAhead at_of world None (filter kept (found kind read world))
  found_ahead kind read rise =
      found_law {R = ℕ} kind read (λ id file. []) world
      (λ id xs rs. (before : Option Listed) → IfSome before (λ l. l.id < id) → AreAhead at_of world before (filter kept xs))
      (λ id before low. tt) (λ id xs rs h before low. h before (IfSome_then before low (λ l less. omega (arith, less))))
      (λ id file xs rs is h before low.
      let first : offset_in before id ≡ 0 = grind (arith, nat_tests, low) in
      ahead_more id (read (shown_text file)) xs before (rw is refl) (IfSome_then before low (λ l less. omega (arith, less)))
      (λ short. rw (first, is) (rise (shown_text file) (rw is at short))) (λ last le. h last (IfSome_then last le (λ l le. omega (arith, le)))))
      None tt

-- the declarations that are found stand in their texts, one ahead of another
module _ (lawful : (text : List ℕ) → length text ≤ max_chars → IsLawfulList (listing_of text))
    (named : (text : List ℕ) → All (IsNamedIn text) (listing_of text)) (fits : Stub → Bool) (world : World) where
  pub rise : (text : List ℕ) → length text ≤ max_chars → AreFrom stub_at (length text) 0 (stubs_in fits text)
  rise text short =
      from_filter stub_at (length text) fits 0 0 (listing_of text) (le_refl 0) (from_lawful text None (listing_of text) (lawful text short) (named text))

  pub stubs_ahead : {walk : List (ℕ × Stub)} → Finds world walk (found Java (stubs_in fits) world) → lowest_unready world ≡ None
      → AreAhead stub_at world None walk
  stubs_ahead ready smart = rw (ready smart, ← filter_all (found Java (stubs_in fits) world)) (found_ahead stub_at world (λ f. true) Java (stubs_in fits) rise)

-- and so do the places of a property key
pub keys_ahead : ((text : List ℕ) → RiseFrom 0 (length text) (keys_of text)) → (key : List ℕ) (world : World) {walk : List (ℕ × ℕ)}
    → Finds world walk (found Properties (places_of_key key) world) → lowest_unready world ≡ None → AreAhead itself world None walk
keys_ahead rise key world ready smart =
    rw (ready smart, ← filter_all (found Properties (places_of_key key) world))
    (found_ahead itself world (λ f. true) Properties (places_of_key key)
    (λ text short. from_keys key 0 0 (length text) (keys_of text) (le_refl 0) (rise text)))

-- ---- the types that the files of a world list

-- the types of a world stand in order
pub types_sorted : ((text : List ℕ) → AllPairs (λ a b. a.at < b.at) (listing_of text)) → (world : World) → AllPairs StandsBefore (types_of world)
types_sorted rising world =
    subst (AllPairs StandsBefore) (found_is Java (stubs_in is_type) world)
    (found_law {R = ℕ} Java (stubs_in is_type) (λ id file. []) world
    (λ id xs rs. AllPairs StandsBefore xs × ((low : ℕ) → low ≤ id → All (λ f. low ≤ f.0) xs))
    (λ id. (pairs_nil StandsBefore, (λ low le. All-nil (λ (f : ListedType). low ≤ f.0)))) (λ id xs rs h. (h.0, (λ low le. h.1 low (omega arith))))
    (λ id file xs rs is h.
    let listed : List Stub = listing_of (shown_text file) in
    let here : List Stub = filter is_type listed in (
      pairs_append StandsBefore (map (λ s. (id, s)) here) xs
          (pairs_map (λ a b. a.at < b.at) StandsBefore (λ s. (id, s)) (λ a b less. inr (refl, less)) here
          (AllPairs-filter (λ a b. a.at < b.at) is_type listed (rising (shown_text file))))
          h.0 (All-map (λ t. All (StandsBefore t) xs) (λ s. (id, s)) here (λ i e within k d inside. inl (omega (arith, h.1 (id + 1) (le_refl (id + 1)) k d inside)))),
      (λ low le. All-append (λ f. low ≤ f.0) (map (λ s. (id, s)) here) xs (All-map (λ (f : ListedType). low ≤ f.0) (λ s. (id, s)) here (λ k d inside. le))
          (h.1 low (omega arith))),
    ))).0

-- what the walk over the types that name a name finds
pub namers_are : (name : List ℕ) (world : World)
    → found Java (stubs_in (has_super name)) world ≡ filter (λ (t : ListedType). has_super name t.1) (types_of world)
namers_are name world =
    let it = λ (t : ListedType). has_super name t.1 in
    let one : has_super name ≡ (λ (s : Stub). is_type s && has_super name s) = fun_ext (λ s. grind arith) in
    found_law Java (stubs_in (has_super name)) types_in world (λ id xs rs. xs ≡ filter it rs) (λ id. refl) (λ id xs rs h. h)
    (λ id file xs rs is h. simp (filter-append, filter_of_map, filter_two, h)
    (ap (λ p. map (λ s. (id, s)) (filter p (listing_of (shown_text file))) ++ filter it rs) one))

-- the types of a world are types
pub types_typed : (world : World) → AllByRecursion (λ t. is_type t.1 ≡ true) (types_of world)
types_typed world =
    let typed = λ (t : ListedType). is_type t.1 ≡ true in
    recursion_from_All typed (types_of world)
    (found_law {X = Stub} Java (stubs_in is_type) types_in world (λ id xs rs. All typed rs) (λ id. All-nil typed) (λ id xs rs h. h)
    (λ id file xs rs is h. All-append typed (types_in id file) rs
    (All-map typed (λ s. (id, s)) (filter is_type (listing_of (shown_text file))) (filter_passes is_type (listing_of (shown_text file)))) h))

-- as many looks as there are full 256 types that are met
pub met_may : (world : World) (name : List ℕ) → lowest_unready world ≡ None
    → MayLook world (query.Inheritors name) (1 + met_count name (types_of world) / rows_a_look)
met_may world name smart = rw smart refl

-- where a file is unready, none is met
pub dumb_met : (world : World) (name : List ℕ) (e : AskRefusal) → IsSomeAnd (lowest_unready world) (λ file. e ≡ NotReady file)
    → MayLook world (query.Inheritors name) (1 + 0)
dumb_met world name e h = grind (arith, h)

-- ---- where a name is used in the files of a world, with a look after each file that uses it

-- Rows are made of the first of all, and others are left; there was a look for each of the first.
pub record IsUsed {W F R : Type 0} (l s : W → ℕ) (uses : F → List R) (all : List F) (rows : List R) (left : List F) (old new : W) : Type 0 where
  pub number : ℕ
  pub looked : LooksThrough l s number old new
  pub counted : number + length left ≡ length all
  pub made : rows ++ flat_map uses left ≡ flat_map uses all

-- the rows of one more that passes a test, and the look behind them saw nothing
pub used_more : {W F R : Type 0} {l s : W → ℕ} {uses : F → List R} {all : List F} {rows rows' : List R} {x : F} {left left' : List F} {old mid new : W}
    (p : F → Bool) → left ≡ x ∷ left' → p x ≡ true → rows' ≡ rows ++ uses x → IsUsed l s uses all rows (filter p left) old mid → LooksThrough l s 1 mid new
    → IsUsed l s uses all rows' (filter p left') old new
used_more {uses = uses} {rows = rows} {x = x} {left} {left'} p next passes grown h q =
    let here : filter p left ≡ x ∷ filter p left' = rw (next, passes) refl in
    record {
      number = h.number + 1;
      looked = looked_through refl h.looked q;
      counted = omega (arith, h.counted, ap length here);
      made = cc (append_assoc rows (uses x) (flat_map uses (filter p left')), ap (λ xs. rows ++ flat_map uses xs) here, h.made);
    }

-- places that rise, none of them before an offset
abbrev pub StandBehind : ℕ → ℕ → List ℕ → Type 0
StandBehind at len ats = (from : ℕ) × (at ≤ from) × PlacesRise from len ats

-- where a file is unready, no file's uses are looked for
pub dumb_uses : (world : World) (name : List ℕ) (e : AskRefusal) → IsSomeAnd (lowest_unready world) (λ file. e ≡ NotReady file)
    → MayLook world (query.Usages name) (1 + 0)
dumb_uses world name e h = grind (arith, h)

module _ (unused : (name text : List ℕ) → is_in_code (mask_in (words_of text) name) ≡ false → places_of name text ≡ [])
    (used : (name text : List ℕ) → is_in_code (mask_in (words_of text) name) ≡ true → places_of name text ≢ []) (world : World) (name : List ℕ) where
  -- the rows of the mask of a file are those of the file
  uses_of : (id : ℕ) (file : File) → file_of world id ≡ Some file → (mask : Option ℕ) → mask_in (words_of (shown_text file)) name ≡ mask
      → flat_map (uses_found world name) (filter has_code (map (λ m. (id, m)) (option_to_list mask))) ≡ uses_in name id file
  uses_of id file is mask same =
      let none : is_in_code mask ≡ false → places_of name (shown_text file) ≡ [] = λ off. unused name (shown_text file) (ap is_in_code same ∙ off) in
      let there : uses_at world name id ≡ uses_in name id file = rw is refl in
      grind (arith, common_steps, none, there)

  -- the rows of the files in whose code the name is found are those of all files
  uses_told : flat_map (uses_found world name) (filter has_code (found Java (masks_in name) world)) ≡ of_world Java (uses_in name) world
  uses_told =
      rows_found Java (λ xs. flat_map (uses_found world name) (filter has_code xs))
      (λ xs ys. ap (flat_map (uses_found world name)) (filter-append has_code xs ys)
      ∙ flat_map-append (uses_found world name) (filter has_code xs) (filter has_code ys))
      refl (masks_in name) (uses_in name) world (λ id file is. uses_of id file is (mask_in (words_of (shown_text file)) name) refl)

  -- a file has a first row where the name has a place, and so where its mask has the bit
  first_there : (id : ℕ) (row : ℕ → PlaceRow) (mask : Option ℕ) (ps : List ℕ) → (is_in_code mask ≡ false → ps ≡ []) → (is_in_code mask ≡ true → ps ≢ [])
      → length (filter has_code (map (λ m. (id, m)) (option_to_list mask))) ≡ length (take 1 (map row ps))
  first_there id row mask ps none some = grind (arith, common_steps, none, some)

  -- as many files have the name in their code as have a first row
  uses_counted : length (filter has_code (found Java (masks_in name) world)) ≡ length (first_uses name world)
  uses_counted =
      found_law Java (masks_in name) (λ id file. take 1 (uses_in name id file)) world (λ id xs rs. length (filter has_code xs) ≡ length rs)
      (λ id. refl) (λ id xs rs h. h)
      (λ id file xs rs is h. let here : List (ℕ × ℕ) = map (λ m. (id, m)) (masks_in name (shown_text file)) in
      let first = first_there id (place_row id file.path (shown_text file)) (mask_in (words_of (shown_text file)) name) (places_of name (shown_text file))
      (unused name (shown_text file)) (used name (shown_text file)) in
      ap length (filter-append has_code here xs) ∙ length-append (filter has_code here) (filter has_code xs)
      ∙ omega (arith, h, first, length-append (take 1 (uses_in name id file)) rs))

  -- as many files as use the name are looked after
  pub uses_may : {walk : List (ℕ × ℕ)} → Finds world walk (found Java (masks_in name) world) → lowest_unready world ≡ None
      → MayLook world (query.Usages name) (1 + length (filter has_code walk))
  uses_may ready smart = rw (ready smart, smart) (ap (λ n. 1 + n) uses_counted)

  -- the answer that is given
  pub used_reply : {walk : List (ℕ × ℕ)} {copy : List ℕ} {rows : List PlaceRow} → Finds world walk (found Java (masks_in name) world)
      → lowest_unready world ≡ None → copy ≡ name → rows ≡ flat_map (uses_found world name) (filter has_code walk)
      → reply world (query.Usages name) ≡ Ok (Usages copy rows)
  used_reply ready smart same made = rw (smart, same, made, ready smart) (ap (λ rs. Ok (Usages name rs)) (sym uses_told))
