-- A search by levels finds what the levels are: what is met, in a level, and before each level and at the end.
pub use Rattle.query_engine.proofs.Words.{◌≡◌, ℕ, Bool, false, if◌then◌else◌, List, [], ◌∷◌, ◌++◌, filter, Option, Some, None, refl, ap, sym, append_assoc}
pub use Rattle.query_engine.proofs.Words.{append-nil, arith, not, is_some, option_or, AllPairs, AllByRecursion, common_steps, recursion_from_All, Stub}
pub use Rattle.query_engine.proofs.Words.{ListedType, names_of, StandsBefore, Location, location_cmp, location_of, is_seen, Reached, meet, meet_all, leveled}
pub use Rattle.query_engine.proofs.Words.{inl, inr, true, ◌&&◌, ◌||◌, ◌∙◌, list_any, bytes_eq, fun_ext, cases_Bool, or_cases, list_any-append}
pub use Rattle.query_engine.proofs.Words.{bytes_eq-Decides, has_super, names_any, is_asked, HasAsked, AskedEach, ◌≤◌, ◌<◌, zero, suc, ◌+◌, ◌==◌, length}
pub use Rattle.query_engine.proofs.Words.{IfSome, false≢true, cases_eq, ne_eqb, nil_from_length, filter-append, inheritors_of, Precedes, Seen, is_level}
pub use Rattle.query_engine.proofs.Words.{with_this, tagged, LevelsRise, IsFound, map, All, nat_cmp, is_lt, World, LevelRow, AreAhead, stub_at, seen_listing}
pub use Rattle.query_engine.proofs.Words.{seen_row, RowsRise, with_row_level, level_row, max_chars, IsLawfulList, listing_of, IsNamedIn, types_of, Java}
pub use Rattle.query_engine.proofs.Words.{stubs_in, is_type, is_eq, rules, Ok, Paces, AreAmong, asked_for, Contains, subst, and_parts, Any-from_list_any}
pub use Rattle.query_engine.proofs.Words.{Contains-append_left, All-contains, All-map, All-filter, All-contains_itself, filter_passes, nat_tests, one_answer}
use Rattle.std.specs.BTreeMap.{insert_entry}
use Rattle.std.proofs.Math.Bool.{or-false, or_assoc}
use Rattle.query_engine.proofs.MemberLemmas.{pairs_head, pairs_tail, filter_none, filter_two, filter_all, filter_few, filter_of_map, any_made, any_map, any_of}
use Rattle.query_engine.proofs.MemberLemmas.{has_map, has_filter, filter_has, bytes_eq_swap}
use Rattle.query_engine.specs.Inheritors.{levels_from}
use Rattle.query_engine.proofs.LevelLemmas.{found_in, left_by, left_fewer, levels_sorted}
use Rattle.std.specs.List.Sorted.{IsNonDecreasingBy, IsStableBy, ties}
use Rattle.query_engine.proofs.FoundLemmas.{found_is, found_ahead as all_ahead, rise}
use Rattle.std.specs.Cmp.Lexicographic.{slice_cmp}
use Rattle.std.specs.BTreeSet.{BTreeSet, Updates}
use Rattle.std.proofs.lemmas.Map.Text.{is_eq-slice_cmp}
use denote.Ref.{Bor}

-- ---- types that are met one after another, and where each was found first

-- levels as they are behind a level at which the types that pass a test are met
abbrev pub stepped : (ListedType → Option ℕ) → ℕ → (ListedType → Bool) → ListedType → Option ℕ
stepped F level p t = option_or (F t) (if p t then Some level else None)

-- the types that have no level yet
abbrev pub without : (ListedType → Option ℕ) → List ListedType → List ListedType
without F types = filter (λ t. not (is_some (F t))) types

-- what was found, by levels, and the names that come next
abbrev pub held : (ListedType → Option ℕ) → List ListedType → List (List ℕ) → Reached
held F types next = record { seen = leveled F types; next = next }

-- what was found, with one that stands before
abbrev under : Location × (ℕ × Stub) → Reached → Reached
under e r = record { seen = e ∷ r.seen; next = r.next }

-- one that stands before all others is not among them, and goes to the front
front : (F : ListedType → Option ℕ) (t : ListedType) (v : ℕ × Stub) (ts : List ListedType) → AllByRecursion (StandsBefore t) ts
    → (is_seen (location_of t) (leveled F ts) ≡ false)
    × (insert_entry location_cmp (leveled F ts) (location_of t) v ≡ (location_of t, v) ∷ leveled F ts)
front F t v [] all = (refl, refl)
front F t v (u ∷ us) all =
    let (unseen, put) = front F t v us all.1 in (grind (arith, common_steps, all.0, unseen), grind (arith, common_steps, all.0, put))

-- those that stand behind one are met as if that weren't there
all_behind : (level : ℕ) (p : ListedType → Bool) (t : ListedType) (v : ℕ × Stub) (r : Reached) (us : List ListedType) → AllByRecursion (StandsBefore t) us
    → meet_all level (under (location_of t, v) r) (filter p us) ≡ under (location_of t, v) (meet_all level r (filter p us))
all_behind level p t v r [] all = refl
all_behind level p t v r (u ∷ us) all =
    grind (arith, common_steps, all.0, all_behind level p t v r us all.1, all_behind level p t v (meet level r u) us all.1)

-- all types that pass a test are met at a level: those without a level have it now
pub met_all : (F : ListedType → Option ℕ) (level : ℕ) (p : ListedType → Bool) (types : List ListedType) (next : List (List ℕ)) → AllPairs StandsBefore types
    → meet_all level (held F types next) (filter p types) ≡ held (stepped F level p) types (next ++ names_of (filter p (without F types)))
met_all F level p [] next sorted = ap (λ n. record { seen = []; next = n }) (sym (append-nil next))
met_all F level p (t ∷ ts) next sorted =
    let before = recursion_from_All (StandsBefore t) ts (pairs_head StandsBefore t ts sorted) in
    let rest = λ (next : List (List ℕ)). met_all F level p ts next (pairs_tail StandsBefore t ts sorted) in
    let fresh = front F t (level, t.1) ts before in
    let behind = λ (l : ℕ) (next : List (List ℕ)). all_behind level p t (l, t.1) (held F ts next) ts before in
    grind (arith, common_steps, fresh.0, fresh.1, behind, rest, append_assoc next (t.1.name ∷ []) (names_of (filter p (without F ts))))

-- ---- a search by levels finds what the levels are

-- In a level: the types that pass a test were met, among them each that names a name that was asked for.
pub record IsAt (types : List ListedType) (before : ListedType → Option ℕ) (level : ℕ) (p : ListedType → Bool) (asked : List (List ℕ))
    (reached : Reached) : Type 0 where
  pub seen : reached.seen ≡ leveled (stepped before level p) types
  pub next : (test : List ℕ → Bool) → list_any test reached.next ≡ list_any test (names_of (filter p (without before types)))
  pub none_more : (name : List ℕ) → is_asked name asked ≡ true → (t : ListedType) → has_super name t.1 ≡ true → is_some (stepped before level p t) ≡ true

module _ (types : List ListedType) (before : ListedType → Option ℕ) (level : ℕ) where
  -- the names of those that pass one of two tests
  names_more : (p q : ListedType → Bool) (test : List ℕ → Bool) (ts : List ListedType)
      → (list_any test (names_of (filter p (without before ts))) || list_any test (names_of (filter q (without (stepped before level p) ts))))
      ≡ list_any test (names_of (filter (λ t. p t || q t) (without before ts)))
  names_more p q test [] = refl
  names_more p q test (t ∷ ts) = grind (arith, names_more p q test ts)

  module _ (sorted : AllPairs StandsBefore types) where
    -- a name is asked for
    at_more : {p : ListedType → Bool} {name : List ℕ} {asked asked' : List (List ℕ)} {reached reached' : Reached}
        → HasAsked types level name asked reached asked' reached' → IsAt types before level p asked reached
        → IsAt types before level (λ t. p t || has_super name t.1) asked' reached'
    at_more {p} {name} {asked} {asked'} {reached} {reached'} has at =
        let names_it = λ (t : ListedType). has_super name t.1 in
        let levels = stepped before level p in
        let whole : reached' ≡ held (stepped levels level names_it) types (reached.next ++ names_of (filter names_it (without levels types))) =
        elim (cases_Bool (is_asked name asked)) [
          | inl again ↦
              let still : stepped levels level names_it ≡ levels = fun_ext (λ t. grind (arith, at.none_more name again t)) in
              let none = filter_none (λ t. not (is_some (levels t)) && names_it t) (λ t. grind (arith, at.none_more name again t)) types in
              rw (still, filter_two names_it (λ t. not (is_some (levels t))) types, none, append-nil, ← at.seen) (rw again at has.met)
          | inr new ↦ rw (← met_all levels level names_it types reached.next sorted, ← at.seen) (rw new at has.met)
        ] in
        record {
          seen = rw whole (ap (λ levels. leveled levels types) (fun_ext (λ t. grind arith)));
          next = λ test. rw (whole, list_any-append, at.next test) (names_more p names_it test types);
          none_more = λ other is t names. elim (or_cases (bytes_eq other name) (is_asked other asked) (sym (has.asks other) ∙ is)) [
            | inl same ↦ let named = rw ((bytes_eq-Decides other name).0 same) at names in grind (arith, named)
            | inr was ↦ let levelled = at.none_more other was t names in grind (arith, levelled)
          ];
        }

    -- names are asked for one after another
    pub at_all : (names : List (List ℕ)) {p : ListedType → Bool} {asked asked' : List (List ℕ)} {reached reached' : Reached}
        → AskedEach types level names asked reached asked' reached' → IsAt types before level p asked reached
        → IsAt types before level (λ t. p t || names_any names t) asked' reached'
    at_all [] {p} (same, still) at = rw (still, same, fun_ext (λ (t : ListedType). or-false (p t))) at
    at_all (name ∷ names) {p} {asked' = asked'} {reached' = reached'} (a, r, has, rest) at =
        rw (← fun_ext (λ (t : ListedType). or_assoc (p t) (has_super name t.1) (names_any names t))) (at_all names rest (at_more has at))

-- ---- what a search by levels has found, before each level and at its end

-- no name leads to no level
no_level : (more level : ℕ) (left : List ListedType) → levels_from more level [] left ≡ []
unfolding levels_from
no_level zero level left = refl
no_level (suc more) level left = rw (filter_none (names_any []) (λ t. refl) left) (no_level more (level + 1) (left_by [] left))

-- levels go by which types name a name
levels_agree : (more level : ℕ) (names others : List (List ℕ)) (left : List ListedType) → ((t : ListedType) → names_any names t ≡ names_any others t)
    → levels_from more level names left ≡ levels_from more level others left
unfolding levels_from
levels_agree zero level names others left same = refl
levels_agree (suc more) level names others left same =
    ap (λ p. tagged level (filter p left) ++ levels_from more (level + 1) (names_of (filter p left)) (filter (λ t. not (p t)) left)) (fun_ext same)

-- where as many levels may come as types are left, one more is none
levels_enough : (more level : ℕ) (names : List (List ℕ)) (left : List ListedType) → length left ≤ more
    → levels_from more level names left ≡ levels_from (suc more) level names left
unfolding levels_from
levels_enough zero level names left few = rw (nil_from_length left (omega arith))
levels_enough (suc more) level names left few =
    ap (λ l. tagged level (found_in names left) ++ l) (elim (cases_eq (length (found_in names left)) 0) [
      | inl none ↦ rw (nil_from_length (found_in names left) none)
          (no_level more (level + 1) (left_by names left) ∙ sym (no_level (suc more) (level + 1) (left_by names left)))
      | inr some ↦ levels_enough more (level + 1) (names_of (found_in names left)) (left_by names left) (omega (arith, left_fewer names left (omega arith)))
    ])

-- the types that have a level
abbrev pub found_by_now : (ListedType → Option ℕ) → List ListedType → List ListedType
found_by_now levels types = filter (λ t. is_some (levels t)) types

-- Before a level: what was found makes, with what the levels from here on give, all types that come from the name.
pub record IsBefore (types : List ListedType) (name : List ℕ) (level : ℕ) (names : List (List ℕ)) (asked : List (List ℕ)) (seen : Seen) : Type 0 where
  pub levels : ListedType → Option ℕ
  pub is : seen ≡ leveled levels types
  pub lower : (t : ListedType) → IfSome (levels t) (λ l. l < level)
  pub none_more : (other : List ℕ) → is_asked other asked ≡ true → (t : ListedType) → has_super other t.1 ≡ true → is_some (levels t) ≡ true
  pub known : (other : List ℕ)
      → (is_asked other asked || is_asked other names) ≡ (bytes_eq other name || is_asked other (names_of (found_by_now levels types)))
  pub whole : (k : ℕ) → filter (λ found. found.0 == k) (inheritors_of name types)
      ≡ tagged k (with_this k levels types) ++ filter (λ found. found.0 == k) (levels_from (length types) level names (without levels types))

-- the search begins
pub before_first : (types : List ListedType) (name : List ℕ) → IsBefore types name 1 (name ∷ []) [] []
before_first types name = record {
  levels = λ t. None;
  is = none types;
  lower = λ t. tt;
  none_more = λ other is. absurd (false≢true is);
  known = λ other. rw (filter_none (λ (t : ListedType). false) (λ t. refl) types) refl;
  whole = λ k. rw (filter_none (λ (t : ListedType). false) (λ t. refl) types, filter_all types) refl;
}
  where
    none : (ts : List ListedType) → [] ≡ leveled (λ t. None) ts
    none [] = refl
    none (t ∷ ts) = none ts

-- names that were asked for one after another are asked for now
asked_each : (types : List ListedType) (level : ℕ) (names : List (List ℕ)) (asked asked' : List (List ℕ)) (reached reached' : Reached)
    → AskedEach types level names asked reached asked' reached' → (other : List ℕ) → is_asked other asked' ≡ (is_asked other names || is_asked other asked)
asked_each types level [] asked asked' reached reached' (same, still) other = rw same refl
asked_each types level (name ∷ names) asked asked' reached reached' (a, r, has, rest) other =
    grind (arith, has.asks other, asked_each types level names a asked' r reached' rest other)

-- the names of the types that have a level, when others have got one
named_more : (F : ListedType → Option ℕ) (level : ℕ) (p : ListedType → Bool) (test : List ℕ → Bool) (ts : List ListedType)
    → (list_any test (names_of (found_by_now F ts)) || list_any test (names_of (filter p (without F ts))))
    ≡ list_any test (names_of (found_by_now (stepped F level p) ts))
named_more F level p test [] = refl
named_more F level p test (t ∷ ts) = grind (arith, common_steps, named_more F level p test ts)

module _ {types : List ListedType} {name : List ℕ} {level : ℕ} {names asked : List (List ℕ)} {seen : Seen}
    (b : IsBefore types name level names asked seen) where
  -- the types that are left before a level, and all levels behind it
  abbrev left : List ListedType
  left = without b.levels types

  abbrev levels : ListedType → Option ℕ
  levels = stepped b.levels level (names_any names)

  -- what is found at each level
  found_by : (k : ℕ) → tagged k (with_this k b.levels types) ++ filter (λ found. found.0 == k) (tagged level (found_in names left))
      ≡ tagged k (with_this k levels types)
  found_by k =
      let one = filter_of_map {Y = ℕ × ListedType} (λ t. (level, t)) (λ found. found.0 == k) (found_in names left) in
      let two = filter_two (λ t. level == k) (names_any names) left in
      let three = filter_two (λ t. names_any names t && (level == k)) (λ t. not (is_some (b.levels t))) types in
      rw (one, two, three) (elim (cases_eq level k) [
        | inl same ↦ rw (sym same, filter_none (λ t. is_level level (b.levels t)) (λ t. grind (arith, common_steps, b.lower t)) types)
            (ap (λ p. tagged level (filter p types)) (fun_ext (λ t. grind (arith, common_steps, b.lower t))))
        | inr apart ↦
            let other = ne_eqb level k apart in
            rw (filter_none (λ t. not (is_some (b.levels t)) && (names_any names t && (level == k))) (λ t. grind (arith, other)) types, append-nil)
            (ap (λ p. tagged k (filter p types)) (fun_ext (λ t. grind (arith, other))))
      ])

  -- the level at hand and those behind it
  split : (next : List (List ℕ)) → ((t : ListedType) → names_any next t ≡ names_any (names_of (found_in names left)) t)
      → levels_from (length types) level names left ≡ tagged level (found_in names left) ++ levels_from (length types) (level + 1) next (without levels types)
  unfolding levels_from
  split next same =
      let enough = levels_enough (length types) level names left (filter_few (λ t. not (is_some (b.levels t))) types) in
      let gone : left_by names left ≡ without levels types =
      filter_two (λ t. not (names_any names t)) (λ t. not (is_some (b.levels t))) types ∙ ap (λ p. filter p types) (fun_ext (λ t. grind arith)) in
      let agree = levels_agree (length types) (level + 1) next (names_of (found_in names left)) (left_by names left) same in
      rw (enough, ← gone, agree) refl

  -- a level ends, and the next one begins
  pub before_next : {asked' : List (List ℕ)} {reached' : Reached} → AllPairs StandsBefore types
      → AskedEach types level names asked (record { seen = seen; next = [] }) asked' reached' → IsBefore types name (level + 1) reached'.next asked' reached'.seen
  before_next {reached' = reached'} sorted each =
      let start : IsAt types b.levels level (λ t. false) asked (record { seen = seen; next = [] }) = record {
        seen = b.is ∙ ap (λ levels. leveled levels types) (fun_ext (λ t. grind arith));
        next = λ test. ap (λ ts. list_any test (names_of ts)) (sym (filter_none (λ t. false) (λ t. refl) left));
        none_more = λ name is t names. let levelled = b.none_more name is t names in grind (arith, levelled);
      } in
      let at = at_all types b.levels level sorted names each start in
      let agree = λ (t : ListedType). at.next (λ name. has_super name t.1) in
      record {
        levels = levels;
        is = at.seen;
        lower = λ t. grind (arith, b.lower t);
        none_more = at.none_more;
        known = λ other.
            let each_of = asked_each types level names _ _ _ _ each other in
            let more = named_more b.levels level (names_any names) (bytes_eq other) types in
            grind (arith, b.known other, each_of, more, at.next (bytes_eq other));
        whole = λ k. rw (split reached'.next agree, filter-append, ← append_assoc, found_by k) at (b.whole k);
      }

-- levels in order don't fall
levels_rise : (xs : List (ℕ × ListedType)) → AllPairs Precedes xs → LevelsRise xs
levels_rise [] sorted = tt
levels_rise (x ∷ xs) sorted = (
  recursion_from_All (λ y. x.0 ≤ y.0) xs (λ k d inside. grind (arith, sorted 0 (suc k) d (omega arith) (omega arith))),
  levels_rise xs (λ i j d less inside. sorted (suc i) (suc j) d (omega arith) (omega arith)),
)

module _ {types : List ListedType} {name : List ℕ} {level : ℕ} {names asked : List (List ℕ)} {seen : Seen}
    (b : IsBefore types name level names asked seen) where
  -- a type that was found comes from the name
  found_comes : (t : ListedType) → Contains types t → is_some (b.levels t) ≡ true → Contains (map (λ found. found.1) (inheritors_of name types)) t
  found_comes t there found = at_level (b.levels t) refl
    where
      at_level : (o : Option ℕ) → b.levels t ≡ o → Contains (map (λ found. found.1) (inheritors_of name types)) t
      at_level None is = absurd (false≢true (rw is at found))
      at_level (Some k) is =
          let fits : is_level k (b.levels t) ≡ true = rw is (grind (arith, nat_tests)) in
          let here = has_map (λ (t : ListedType). (k, t)) _ t (has_filter (λ t. is_level k (b.levels t)) types t there fits) in
          let among = subst (λ l. Contains {X = ℕ × ListedType} l (k, t)) (sym (b.whole k)) (Contains-append_left _ _ (k, t) here) in
          has_map (λ (found : ℕ × ListedType). found.1) _ (k, t) (filter_has (λ found. found.0 == k) (inheritors_of name types) (k, t) among).0

  -- and its name is among theirs
  named_comes : (other : List ℕ) → is_asked other (names_of (found_by_now b.levels types)) ≡ true
      → is_asked other (names_of (map (λ found. found.1) (inheritors_of name types))) ≡ true
  named_comes other is =
      let by_type = any_made (λ (t : ListedType). t.1.name) (bytes_eq other) (λ t. is_some (b.levels t)) types in
      let (k, t, inside, at, both) = Any-from_list_any (λ t. is_some (b.levels t) && bytes_eq other t.1.name) types (sym by_type ∙ is) in
      let (has, eq) = and_parts _ _ both in
      any_of (bytes_eq other) _ t.1.name (has_map (λ (t : ListedType). t.1.name) _ t (found_comes t (k, inside, at) has)) eq

  -- so the names that come next are those of such types, or the name itself
  pub names_among : AreAmong names (asked_for name types)
  names_among other is = grind (arith, b.known other, is, named_comes other)

-- in the end the names of all types that come from the name were asked for
pub all_asked : {types : List ListedType} {name : List ℕ} {level : ℕ} {asked : List (List ℕ)} {seen : Seen} → IsBefore types name level [] asked seen
    → (other : List ℕ) → is_asked other asked ≡ is_asked other (asked_for name types)
all_asked {types} {name} {level} {asked} b other =
    let known : is_asked other asked ≡ (bytes_eq other name || is_asked other (names_of (found_by_now b.levels types))) =
    grind (arith, b.known other) in
    let same = one_answer (is_asked other (names_of (found_by_now b.levels types))) _ ((λ h. h), (λ h. h)) (named_found, named_comes b other) in
    known ∙ ap (λ r. bytes_eq other name || r) same
  where
    level_there : (level : ℕ) (o : Option ℕ) → is_level level o ≡ true → is_some o ≡ true
    level_there level None is = absurd (false≢true is)
    level_there level (Some l) is = refl

    -- what comes from the name was found
    comes_found : (x : ℕ × ListedType) → Contains (inheritors_of name types) x → Contains types x.1 × (is_some (b.levels x.1) ≡ true)
    comes_found x there =
        let P = λ (f : ℕ × ListedType). Contains types f.1 × (is_some (b.levels f.1) ≡ true) in
        let p = λ (t : ListedType). is_level x.0 (b.levels t) in
        let whole : filter (λ found. found.0 == x.0) (inheritors_of name types) ≡ tagged x.0 (with_this x.0 b.levels types) =
        rw (no_level (length types) level (without b.levels types), append-nil) at (b.whole x.0) in
        let here = has_filter (λ found. found.0 == x.0) (inheritors_of name types) x there (grind (arith, nat_tests)) in
        All-contains P _ x
        (All-map P (λ t. (x.0, t)) (with_this x.0 b.levels types)
        (λ i d inside. (All-filter p (Contains types) types (All-contains_itself types) i d inside, level_there x.0 _ (filter_passes p types i d inside))))
        (subst (λ l. Contains l x) whole here)

    named_found : is_asked other (names_of (map (λ found. found.1) (inheritors_of name types))) ≡ true
        → is_asked other (names_of (found_by_now b.levels types)) ≡ true
    named_found is =
        let by_type = any_map (λ (t : ListedType). t.1.name) (bytes_eq other) (map (λ found. found.1) (inheritors_of name types)) in
        let by_found = any_map (λ (f : ℕ × ListedType). f.1) (λ t. bytes_eq other t.1.name) (inheritors_of name types) in
        let (k, x, inside, at, eq) = Any-from_list_any (λ (f : ℕ × ListedType). bytes_eq other f.1.1.name) (inheritors_of name types)
        (sym by_found ∙ sym by_type ∙ is) in
        let (there, has) = comes_found x (k, inside, at) in
        any_made (λ (t : ListedType). t.1.name) (bytes_eq other) (λ t. is_some (b.levels t)) types
        ∙ any_of (λ t. is_some (b.levels t) && bytes_eq other t.1.name) types x.1 there (rw (has, eq) refl)

-- no name is left, and the search ends
pub found_all : {types : List ListedType} {name : List ℕ} {level : ℕ} {asked : List (List ℕ)} {seen : Seen} → AllPairs StandsBefore types
    → IsBefore types name level [] asked seen → IsFound types name seen
found_all {types} {name} {level} sorted b = record {
  levels = b.levels;
  is = b.is;
  each = λ k. rw (no_level (length types) level (without b.levels types), append-nil) at (b.whole k);
  rise = levels_rise (inheritors_of name types) (levels_sorted (length types) 1 (name ∷ []) types sorted);
}

-- ---- rows by their levels

-- the order by which rows are sorted
abbrev pub lower : LevelRow → LevelRow → Bool
lower a b = is_lt (nat_cmp a.level b.level)

-- sorted rows rise by their levels
pub sorted_rise : (rows : List LevelRow) → IsNonDecreasingBy (λ row. row.level) rows → RowsRise rows
sorted_rise [] far = tt
sorted_rise (r ∷ rows) far = (
  recursion_from_All (λ other. r.level ≤ other.level) rows (λ k d inside. far 0 (suc k) d (omega arith) (omega arith)),
  sorted_rise rows (λ i j d le inside. far (suc i) (suc j) d (omega arith) (omega arith)),
)

-- a stable sort keeps the rows of each level
pub stable_levels : (old new : List LevelRow) → length new ≡ length old → IsStableBy lower old new → (level : ℕ)
    → with_row_level level new ≡ with_row_level level old
stable_levels [] [] len stable level = refl
stable_levels [] (r ∷ rows) len stable level = absurd (omega (arith, len))
stable_levels (r ∷ rows) new len stable level =
    let same : ties lower (record r { level = level }) ≡ (λ row. row.level == level) = fun_ext (λ row. grind (arith, common_steps)) in
    ap (λ p. filter p new) (sym same) ∙ stable (record r { level = level }) ∙ ap (λ p. filter p (r ∷ rows)) same

module _ (world : World) where
  -- nothing of a lower level
  none_lower : {X : Type 0} (level_of : X → ℕ) (level low : ℕ) (xs : List X) → level < low → AllByRecursion (λ x. low ≤ level_of x) xs
      → filter (λ x. level_of x == level) xs ≡ []
  none_lower level_of level low [] less all = refl
  none_lower level_of level low (x ∷ xs) less all = grind (arith, common_steps, less, all.0, none_lower level_of level low xs less all.1)

  -- rows by levels are those of types by levels where they have the same rows of each level
  same_rows : (rows : List LevelRow) (found : List (ℕ × ListedType)) → RowsRise rows → LevelsRise found
      → ((level : ℕ) → with_row_level level rows ≡ map (level_row world) (filter (λ f. f.0 == level) found)) → rows ≡ map (level_row world) found
  same_rows [] [] rows_rise rise same = refl
  same_rows [] (f ∷ fs) rows_rise rise same = grind (arith, common_steps, same f.0)
  same_rows (x ∷ xs) [] rows_rise rise same = grind (arith, common_steps, same x.level)
  same_rows (x ∷ xs) (f ∷ fs) rows_rise rise same =
      let no_type = none_lower (λ (f : ℕ × ListedType). f.0) x.level f.0 fs in
      let no_row = none_lower (λ (r : LevelRow). r.level) f.0 x.level xs in
      let first : x ≡ level_row world f = grind (arith, common_steps, same x.level, same f.0, no_type, no_row, rows_rise.0, rise.0) in
      cc (first, same_rows xs fs rows_rise.1 rise.1 (λ k. grind (arith, first, same k)))

  -- the rows of one level
  level_rows_of : (levels : ListedType → Option ℕ) (level : ℕ) (types : List ListedType)
      → with_row_level level (map (seen_row world) (leveled levels types)) ≡ map (level_row world) (tagged level (with_this level levels types))
  level_rows_of levels level [] = refl
  level_rows_of levels level (t ∷ ts) = grind (arith, common_steps, level_rows_of levels level ts)

  -- the rows of what a search found, by levels, are those of the types that come from the name
  pub rows_found : (name : List ℕ) (types : List ListedType) (seen : Seen) (rows : List LevelRow) → IsFound types name seen → RowsRise rows
      → ((level : ℕ) → with_row_level level rows ≡ with_row_level level (map (seen_row world) seen)) → rows ≡ map (level_row world) (inheritors_of name types)
  rows_found name types seen rows found rise same =
      same_rows rows (inheritors_of name types) rise found.rise
      (λ level. rw (found.each level, ← level_rows_of found.levels level types, ← found.is) (same level))

  listings_of : (levels : ListedType → Option ℕ) (types : List ListedType) → map seen_listing (leveled levels types) ≡ filter (λ t. is_some (levels t)) types
  listings_of levels [] = refl
  listings_of levels (t ∷ ts) = grind (arith, listings_of levels ts)

  -- what a search found stands ahead
  pub found_ahead : ((text : List ℕ) → length text ≤ max_chars → IsLawfulList (listing_of text)) → ((text : List ℕ) → All (IsNamedIn text) (listing_of text))
      → (name : List ℕ) (seen : Seen) → IsFound (types_of world) name seen → AreAhead stub_at world None (map seen_listing seen)
  found_ahead lawful named name seen found =
      rw (found.is, listings_of found.levels (types_of world), ← found_is Java (stubs_in is_type) world)
      (all_ahead stub_at world (λ (t : ListedType). is_some (found.levels t)) Java (stubs_in is_type) (rise lawful named is_type world))

-- ---- the names that were asked for, as a set

-- a set of names, seen as the names
abbrev seen_names : List (Bor (List ℕ)) → List (List ℕ)
seen_names keys = map (λ k. k.now) keys

pub asked_is : (name : List ℕ) (keys : List (Bor (List ℕ))) → list_any (λ k. is_eq (slice_cmp nat_cmp name k.now)) keys ≡ is_asked name (seen_names keys)
asked_is name [] = refl
asked_is name (k ∷ ks) = cc (is_eq-slice_cmp name k.now, asked_is name ks)

-- one more name
pub asked_more : (name : Bor (List ℕ)) (old new : BTreeSet (Bor (List ℕ))) → Updates (λ x y. slice_cmp nat_cmp x.now y.now) old new name true
    → (other : List ℕ) → is_asked other (seen_names new.keys) ≡ (bytes_eq other name.now || is_asked other (seen_names old.keys))
asked_more name old new updates other =
    let key : Bor (List ℕ) = record { ref_ptr = (0, 0); now = other } in
    grind (arith, updates.0 key, is_eq-slice_cmp name.now other, bytes_eq_swap name.now other, asked_is other old.keys, asked_is other new.keys)
