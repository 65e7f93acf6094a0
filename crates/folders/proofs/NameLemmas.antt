-- What stands in a name behind its front, and that names still rise without the front that they share.
use Rattle.std.proofs.Common.{◌≡◌, ◌≢◌, ℕ, List, [], ◌∷◌, ◌++◌, map, drop, Option, Some, None, refl, sym, ◌∙◌, ap, arith}
use Rattle.std.specs.Prelude.{option_copied, MatchOption}
use Rattle.std.specs.declared.cmp.Ordering.{Ordering}
use Rattle.std.proofs.lemmas.Bool.Decides.{nat_tests}
use Rattle.std.specs.declared.cmp.Ordering.TheVariants.{Less}
use Rattle.std.specs.Ordering.{nat_cmp}
use Rattle.std.specs.Cmp.Lexicographic.{slice_cmp}
use Rattle.std.specs.List.{AllByRecursion, filter_map, cons_option}
use Rattle.std.specs.List.Sorted.{IsStrictlySortedBy}
use Rattle.std.specs.Str.Pattern.{FindsTextPrefix, StripsPrefix}
use denote.Ref.{Bor}
use Rattle.folders.specs.Names.{behind}
use Rattle.folders.specs.Below.{IsRising}

-- a name that begins so
pub behind-append : (front rest : List ℕ) → behind front (front ++ rest) ≡ Some rest
behind-append [] rest = refl
behind-append (b ∷ bs) rest = grind (arith, nat_tests, behind-append bs rest)

-- what makes the name whole again
pub append-behind : (front name rest : List ℕ) → behind front name ≡ Some rest → name ≡ front ++ rest
append-behind [] name rest is = cc
append-behind (b ∷ bs) [] rest is = cc
append-behind (b ∷ bs) (c ∷ cs) rest is = grind (arith, nat_tests, append-behind bs cs rest)

-- a name that doesn't begin so
pub behind-none : (front name : List ℕ) → ((rest : List ℕ) → name ≢ front ++ rest) → behind front name ≡ None
behind-none front name differs = by (behind front name) refl
  where
    by : (r : Option (List ℕ)) → behind front name ≡ r → r ≡ None
    by None is = refl
    by (Some rest) is = absurd (differs rest (append-behind front name rest is))

-- what `strip_prefix` gives
pub behind-stripped : (front name : List ℕ) (r : Option (Bor (List ℕ)))
    → MatchOption r (FindsTextPrefix front name None) (λ x. StripsPrefix (FindsTextPrefix front) name x.now)
    → option_copied r ≡ behind front name
behind-stripped front name None lacks = sym (behind-none front name lacks)
behind-stripped front name (Some x) has =
    let whole : name ≡ front ++ drop has.0 name = has.1.1 in
    let stripped : behind front name ≡ Some (drop has.0 name) = ap (behind front) whole ∙ behind-append front (drop has.0 name) in
    let rest : x.now ≡ drop has.0 name = has.2 in
    cc

-- names with one front are ordered as what stands behind it
pub slice_cmp-append : (front xs ys : List ℕ) → slice_cmp nat_cmp (front ++ xs) (front ++ ys) ≡ slice_cmp nat_cmp xs ys
slice_cmp-append [] xs ys = refl
slice_cmp-append (b ∷ bs) xs ys = grind (arith, nat_tests, slice_cmp-append bs xs ys)

-- of the names behind one, none stands before it without the front that they share
rest_after : (front name rest : List ℕ) (names : List (List ℕ)) → name ≡ front ++ rest
    → AllByRecursion (λ later. slice_cmp nat_cmp name later ≡ Less) names
    → AllByRecursion (λ later. slice_cmp nat_cmp rest later ≡ Less) (filter_map (behind front) names)
rest_after front name rest [] whole after = tt
rest_after front name rest (later ∷ names) whole after = by (behind front later) refl (rest_after front name rest names whole after.1)
  where
    Is : List (List ℕ) → Type 0
    Is = AllByRecursion (λ other. slice_cmp nat_cmp rest other ≡ Less)

    by : (r : Option (List ℕ)) → behind front later ≡ r → Is (filter_map (behind front) names)
        → Is (cons_option r (filter_map (behind front) names))
    by None is others = others
    by (Some end) is others =
        let at : later ≡ front ++ end = append-behind front later end is in
        let same : slice_cmp nat_cmp name later ≡ slice_cmp nat_cmp rest end = rw (whole, at) (slice_cmp-append front rest end) in
        (sym same ∙ after.0, others)

-- rising names still rise without the front that those behind it have
pub IsRising-behind : (front : List ℕ) (names : List (List ℕ)) → IsRising names → IsRising (filter_map (behind front) names)
unfolding IsStrictlySortedBy
IsRising-behind front [] rise = tt
IsRising-behind front (name ∷ names) rise = by (behind front name) refl (IsRising-behind front names rise.1)
  where
    by : (r : Option (List ℕ)) → behind front name ≡ r → IsRising (filter_map (behind front) names)
        → IsRising (cons_option r (filter_map (behind front) names))
    by None is others = others
    by (Some rest) is others = (rest_after front name rest names (append-behind front name rest is) rise.0, others)

-- what rises by a value of each rises as a list of these values
pub IsStrictlySortedBy-map : {K L : Type 0} (c : L → L → Ordering) (f : K → L) (xs : List K)
    → IsStrictlySortedBy (λ x y. c (f x) (f y)) xs → IsStrictlySortedBy c (map f xs)
unfolding IsStrictlySortedBy
IsStrictlySortedBy-map c f [] rise = tt
IsStrictlySortedBy-map {K = K} c f (x ∷ xs) rise = (each xs rise.0, IsStrictlySortedBy-map c f xs rise.1)
  where
    each : (ys : List K) → AllByRecursion (λ y. c (f x) (f y) ≡ Less) ys → AllByRecursion (λ z. c (f x) z ≡ Less) (map f ys)
    each [] all = tt
    each (y ∷ ys) all = (all.0, each ys all.1)
