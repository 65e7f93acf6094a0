-- Levels are the lengths of the shortest chains.
use Rattle.query_engine.proofs.Words.{◌≡◌, ◌≤◌, ◌<◌, ◌⊎◌, inl, inr, ℕ, zero, suc, ◌+◌, true, ◌&&◌, List, [], ◌∷◌, length, filter, get_or, Some, All, refl, ap}
use Rattle.query_engine.proofs.Words.{sym, ◌∙◌, arith, not, AllPairs, AllByRecursion, Contains, list_any, cases_Bool, not_from_false, and_parts, All-nil}
use Rattle.query_engine.proofs.Words.{All-cons, All-append, All-map, All-weaker, recursion_from_All, All-filter, All-contains, All-contains_itself}
use Rattle.query_engine.proofs.Words.{filter_passes, Contains-append_left, Contains-append_right, Any-from_list_any, list_any_at, AllPairs-filter, has_super}
use Rattle.query_engine.proofs.Words.{ListedType, names_any, names_of, inheritors_of, IsOnLevel, IsChain, last_of, EndsChain, IsLeast, StandsBefore, Precedes}
use Rattle.query_engine.proofs.Words.{tagged}
use Rattle.std.proofs.lemmas.List.Filters.{length-filter_both}
use Rattle.std.specs.Prelude.{unwrap_or}
use Rattle.query_engine.specs.Inheritors.{levels_from}
use Rattle.query_engine.proofs.MemberLemmas.{has_filter, filter_has, any_made, has_map, pairs_nil, pairs_append, pairs_map}

-- the types of a level, and those that are left behind it
abbrev pub found_in : List (List ℕ) → List ListedType → List ListedType
found_in names left = filter (names_any names) left

abbrev pub left_by : List (List ℕ) → List ListedType → List ListedType
left_by names left = filter (λ t. not (names_any names t)) left

-- and the levels that these give
abbrev pub levels_behind : ℕ → ℕ → List (List ℕ) → List ListedType → List (ℕ × ListedType)
levels_behind more level names left = levels_from more (level + 1) (names_of (found_in names left)) (left_by names left)

-- where a level finds a type, fewer are left
pub left_fewer : (names : List (List ℕ)) (left : List ListedType) → 1 ≤ length (found_in names left) → length (left_by names left) < length left
left_fewer names left some = omega (arith, length-filter_both (names_any names) (λ t. not (names_any names t)) (λ t. refl) left)

-- A chain of these types, so many behind its first, ends at a type. Its first type names one of these names.
data Ends (left : List ListedType) (names : List (List ℕ)) : ℕ → ListedType → Type 0 where
  begins : {t : ListedType} → Contains left t → names_any names t ≡ true → Ends left names 0 t
  goes_on : {n : ℕ} {t u : ListedType} → Ends left names n t → Contains left u → has_super t.1.name u.1 ≡ true → Ends left names (suc n) u

-- a chain, by its list
module _ (types : List ListedType) (name : List ℕ) where
  ends_chain : {n len : ℕ} {t u : ListedType} (ts : List ListedType) → Ends types (name ∷ []) n u → IsChain u.1.name ts → All (Contains types) ts
      → len ≡ suc n + length ts → last_of (u ∷ ts) ≡ Some t → EndsChain types name len t
  ends_chain {u = u} ts (begins there named) linked listed many last = record {
    chain = u ∷ ts;
    listed = All-cons (Contains types) u ts there listed;
    linked = (grind (arith, named), linked);
    many = omega (arith, many);
    ends = last;
  }
  ends_chain {u = u} ts (goes_on e there link) linked listed many last =
      ends_chain (u ∷ ts) e (link, linked) (All-cons (Contains types) u ts there listed) (omega (arith, many)) last

  chain_on : {n len : ℕ} {t u : ListedType} (ts : List ListedType) → Ends types (name ∷ []) n u → IsChain u.1.name ts → AllByRecursion (Contains types) ts
      → n + length ts ≡ len → last_of (u ∷ ts) ≡ Some t → Ends types (name ∷ []) len t
  chain_on {n} {len} {u = u} [] e linked listed many last = let same : n ≡ len = omega arith in rw (sym (ap (λ o. unwrap_or o u) last), sym same) e
  chain_on (v ∷ ts) e linked listed many last = chain_on ts (goes_on e listed.0 linked.0) linked.1 listed.1 (omega arith) last

  chain_ends : {len : ℕ} {t : ListedType} → EndsChain types name len t → (n : ℕ) × (len ≡ suc n) × Ends types (name ∷ []) n t
  chain_ends {len} {t} h = of h.chain h.linked (recursion_from_All (Contains types) h.chain h.listed) h.many h.ends
    where
      of : (ts : List ListedType) → IsChain name ts → AllByRecursion (Contains types) ts → length ts ≡ len → last_of ts ≡ Some t
          → (n : ℕ) × (len ≡ suc n) × Ends types (name ∷ []) n t
      of [] linked listed many last = absurd cc
      of (u ∷ ts) linked listed many last = (length ts, sym many, chain_on ts (begins listed.0 (grind (arith, linked.0))) linked.1 listed.1 (omega arith) last)

-- a level
module _ (names : List (List ℕ)) (left : List ListedType) where
  -- those that name a type of the level
  next_named : (t : ListedType) → names_any (names_of (found_in names left)) t ≡ list_any (λ u. names_any names u && has_super u.1.name t.1) left
  next_named t = any_made (λ u. u.1.name) (λ name. has_super name t.1) (names_any names) left

  -- a chain from the level to a type that is left behind it is longer by one from the level's names
  longer : {n : ℕ} {t : ListedType} → Ends (left_by names left) (names_of (found_in names left)) n t → Ends left names (suc n) t
  longer {t = t} (begins there named) =
      let (k, u, inside, is, both) = Any-from_list_any (λ u. names_any names u && has_super u.1.name t.1) left (sym (next_named t) ∙ named) in
      let (first, link) = and_parts _ _ both in
      goes_on (begins (k, inside, is) first) (filter_has (λ t. not (names_any names t)) left t there).0 link
  longer {t = t} (goes_on e there link) = goes_on (longer e) (filter_has (λ t. not (names_any names t)) left t there).0 link

  -- and each chain to one that isn't found at the level gives such a chain, which is shorter
  shorter : {n : ℕ} {t : ListedType} → Ends left names n t
      → (Contains left t × (names_any names t ≡ true)) ⊎ ((m : ℕ) × (m < n) × Ends (left_by names left) (names_of (found_in names left)) m t)
  shorter (begins there named) = inl (there, named)
  shorter {t = t} (goes_on {t = u} e there link) = elim (cases_Bool (names_any names t)) [
    | inl named ↦ inl (there, named)
    | inr other ↦ let stays = has_filter (λ t. not (names_any names t)) left t there (not_from_false (names_any names t) other) in elim (shorter e) [
      | inl ((k, inside, is), first) ↦
          let both : names_any names (get_or left k u) && has_super (get_or left k u).1.name t.1 ≡ true = rw is (grind (arith, first, link)) in
          inr (0, omega arith, begins stays (next_named t ∙ list_any_at (λ u. names_any names u && has_super u.1.name t.1) left k u inside both))
      | inr (m, less, e) ↦ inr (suc m, omega arith, goes_on e stays link)
    ]
  ]

  -- it ends at one of these types, and fewer are left behind the level
  ends_there : {n : ℕ} {t : ListedType} → Ends left names n t → Contains left t × (length (left_by names left) < length left)
  ends_there {t = t} (begins there named) = (there, left_fewer names left (omega (arith, (has_filter (names_any names) left t there named).1)))
  ends_there (goes_on e there link) = (there, (ends_there e).1)

-- a type that was found ends a chain of its level, and no shorter one; its level is within
abbrev IsShortest : ℕ → ℕ → List (List ℕ) → List ListedType → ℕ × ListedType → Type 0
IsShortest more level names left f = (n : ℕ) × (f.0 ≡ level + n) × (n < more) × Ends left names n f.1 × ((m : ℕ) → Ends left names m f.1 → n ≤ m)

found_sound : (more level : ℕ) (names : List (List ℕ)) (left : List ListedType) → All (IsShortest more level names left) (levels_from more level names left)
unfolding levels_from
found_sound zero level names left = All-nil (IsShortest zero level names left)
found_sound (suc more) level names left =
    let next = names_of (found_in names left) in
    All-append (IsShortest (suc more) level names left) (tagged level (found_in names left)) (levels_behind more level names left)
    (All-map (IsShortest (suc more) level names left) (λ t. (level, t)) (found_in names left)
    (λ k d inside.
    let there = All-filter (names_any names) (Contains left) left (All-contains_itself left) k d inside in
    (0, omega arith, omega arith, begins there (filter_passes (names_any names) left k d inside), λ m e. omega arith)))
    (All-weaker (IsShortest more (level + 1) next (left_by names left)) (IsShortest (suc more) level names left) (λ f r. (
      suc r.0,
      omega (arith, r.1),
      omega (arith, r.2),
      longer names left r.3,
      λ m e. elim (shorter names left e) [
        | inl now ↦ let gone = (filter_has (λ t. not (names_any names t)) left f.1 (ends_there next (left_by names left) r.3).0).1 in grind (arith, gone, now.1)
        | inr s ↦ omega (arith, s.1, r.4 s.0 s.2)
      ],
    )) (levels_behind more level names left) (found_sound more (level + 1) next (left_by names left)))

-- A type to which a chain leads is found, at no more than its length, where as many levels as types are left may come.
found_whole : (more level : ℕ) (names : List (List ℕ)) (left : List ListedType) (n : ℕ) (t : ListedType) → length left ≤ more → Ends left names n t
    → (j : ℕ) × (j ≤ level + n) × IsOnLevel (levels_from more level names left) j t
unfolding levels_from
found_whole zero level names left n t few e = absurd (omega (arith, (ends_there names left e).0.1))
found_whole (suc more) level names left n t few e =
    elim (shorter names left e) [
      | inl now ↦ (
        level,
        omega arith,
        Contains-append_left _ _ _ (has_map (λ (t : ListedType). (level, t)) _ t (has_filter (names_any names) left t now.0 now.1)),
      )
      | inr s ↦
          let r = found_whole more (level + 1) (names_of (found_in names left)) (left_by names left) s.0 t (omega (arith, (ends_there names left e).1)) s.2 in
          (r.0, omega (arith, r.1, s.1), Contains-append_right (tagged level (found_in names left)) _ _ r.2)
    ]

-- each type that comes from a name ends a chain of its level, and no shorter one; no level is higher than there are types
pub inheritors_sound : (name : List ℕ) (types : List ListedType) (level : ℕ) (t : ListedType) → IsOnLevel (inheritors_of name types) level t
    → EndsChain types name level t × IsLeast types name level t × (level ≤ length types)
inheritors_sound name types level t found =
    let r = All-contains (IsShortest (length types) 1 (name ∷ []) types) (inheritors_of name types) (level, t)
    (found_sound (length types) 1 (name ∷ []) types) found in (
      ends_chain types name [] r.3 tt (All-nil (Contains types)) (omega (arith, r.1)) refl,
      (λ other chain. let e = chain_ends types name chain in omega (arith, r.1, e.1, r.4 e.0 e.2)),
      omega (arith, r.1, r.2),
    )

-- and each type that ends a chain comes from it
pub inheritors_whole : (name : List ℕ) (types : List ListedType) (len : ℕ) (t : ListedType) → EndsChain types name len t
    → (level : ℕ) × (level ≤ len) × IsOnLevel (inheritors_of name types) level t
inheritors_whole name types len t chain =
    let e = chain_ends types name chain in
    let r = found_whole (length types) 1 (name ∷ []) types e.0 t (omega arith) e.2 in
    (r.0, omega (arith, r.1, e.1), r.2)

-- what levels find stands in order
pub levels_sorted : (more level : ℕ) (names : List (List ℕ)) (left : List ListedType) → AllPairs StandsBefore left
    → AllPairs Precedes (levels_from more level names left)
unfolding levels_from
levels_sorted zero level names left sorted = pairs_nil Precedes
levels_sorted (suc more) level names left sorted =
    let here = found_in names left in
    let rest = levels_behind more level names left in
    pairs_append Precedes (tagged level here) rest
    (pairs_map StandsBefore Precedes (λ t. (level, t)) (λ t u h. inr (refl, h)) here (AllPairs-filter StandsBefore (names_any names) left sorted))
    (levels_sorted more (level + 1) (names_of here) (left_by names left) (AllPairs-filter StandsBefore (λ t. not (names_any names t)) left sorted))
    (All-map (λ a. All (Precedes a) rest) (λ t. (level, t)) here (λ k d inside.
    All-weaker (IsShortest more (level + 1) (names_of here) (left_by names left)) (Precedes (level, get_or here k d)) (λ f r. inl (omega (arith, r.1))) rest
    (found_sound more (level + 1) (names_of here) (left_by names left))))
