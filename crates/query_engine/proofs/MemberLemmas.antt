-- What lists have, through a filter and a map, and lists in order.
use Rattle.query_engine.proofs.Words.{◌≡◌, ◌≤◌, zero, suc, Bool, true, false, ◌&&◌, List, [], ◌∷◌, ◌++◌, map, length, filter, All, refl, ap, ◌∙◌, arith}
use Rattle.query_engine.proofs.Words.{AllPairs, Contains, list_any, cond_both, get_or-map, length-map, All-head, All-tail, All-append, All-map, All-filter}
use Rattle.query_engine.proofs.Words.{list_any_at, bytes_eq, bytes_eq-Decides, sym, ℕ, one_answer}
use Rattle.query_engine.proofs.Words.{All-weaker, All-contains, All-contains_itself, filter_passes, Contains-append_right, AllPairs-cons}

module _ {X : Type 0} where
  -- what stays was there, and passes the test
  pub filter_has : (p : X → Bool) (xs : List X) (x : X) → Contains (filter p xs) x → Contains xs x × (p x ≡ true)
  filter_has p xs x h = (
    All-contains (Contains xs) (filter p xs) x (All-filter p (Contains xs) xs (All-contains_itself xs)) h,
    All-contains (λ x. p x ≡ true) (filter p xs) x (filter_passes p xs) h,
  )

  -- what passes a test stays
  pub has_filter : (p : X → Bool) (xs : List X) (x : X) → Contains xs x → p x ≡ true → Contains (filter p xs) x
  has_filter p [] x h passes = absurd (omega (arith, h.1))
  has_filter p (y ∷ ys) x (zero, inside, is) passes = rw (is, passes) (0, omega arith, refl)
  has_filter p (y ∷ ys) x (suc k, inside, is) passes =
      let rest = has_filter p ys x (k, omega arith, is) passes in
      cond_both (p y) (y ∷ filter p ys) (filter p ys) (λ l. Contains l x) (λ here. Contains-append_right (y ∷ []) (filter p ys) x rest) (λ gone. rest)

  -- a filter lets no more through than there are
  pub filter_few : (p : X → Bool) (xs : List X) → length (filter p xs) ≤ length xs
  filter_few p [] = omega arith
  filter_few p (x ∷ xs) = grind (arith, filter_few p xs)

  -- a filter that lets nothing through, and one that lets everything through
  pub filter_none : (p : X → Bool) → ((x : X) → p x ≡ false) → (xs : List X) → filter p xs ≡ []
  filter_none p none [] = refl
  filter_none p none (x ∷ xs) = grind (arith, none x, filter_none p none xs)

  pub filter_all : (xs : List X) → filter (λ x. true) xs ≡ xs
  filter_all [] = refl
  filter_all (x ∷ xs) = ap (λ l. x ∷ l) (filter_all xs)

  -- two tests one after the other
  pub filter_two : (p q : X → Bool) (xs : List X) → filter p (filter q xs) ≡ filter (λ x. q x && p x) xs
  filter_two p q [] = refl
  filter_two p q (x ∷ xs) = grind (arith, filter_two p q xs)

-- one of a list passes a test
pub any_of : {X : Type 0} (test : X → Bool) (xs : List X) (x : X) → Contains xs x → test x ≡ true → list_any test xs ≡ true
any_of test xs x (k, inside, is) passes = list_any_at test xs k x inside (rw is passes)

-- two names are the same either way
pub bytes_eq_swap : (xs ys : List ℕ) → bytes_eq xs ys ≡ bytes_eq ys xs
bytes_eq_swap xs ys =
    one_answer (bytes_eq xs ys) (bytes_eq ys xs) (bytes_eq-Decides xs ys)
    ((λ h. sym ((bytes_eq-Decides ys xs).0 h)), (λ h. (bytes_eq-Decides ys xs).1 (sym h)))

module _ {X Y : Type 0} (f : X → Y) where
  -- a test of what is made of each
  pub filter_of_map : (p : Y → Bool) (xs : List X) → filter p (map f xs) ≡ map f (filter (λ x. p (f x)) xs)
  filter_of_map p [] = refl
  filter_of_map p (x ∷ xs) = grind (arith, filter_of_map p xs)

  -- and of what is made of those that pass another
  pub any_made : (test : Y → Bool) (q : X → Bool) (xs : List X) → list_any test (map f (filter q xs)) ≡ list_any (λ x. q x && test (f x)) xs
  any_made test q [] = refl
  any_made test q (x ∷ xs) = grind (arith, any_made test q xs)

  -- a test of what is made of each
  pub any_map : (test : Y → Bool) (xs : List X) → list_any test (map f xs) ≡ list_any (λ x. test (f x)) xs
  any_map test [] = refl
  any_map test (x ∷ xs) = grind (arith, any_map test xs)

  pub has_map : (xs : List X) (x : X) → Contains xs x → Contains (map f xs) (f x)
  has_map xs x h = (h.0, rw length-map h.1, get_or-map f xs h.0 x (f x) h.1 ∙ ap f h.2)

module _ {X : Type 0} (R : X → X → Type 0) where
  pub pairs_nil : AllPairs R []
  pairs_nil i j d less inside = absurd (omega arith)

  pub pairs_head : (x : X) (xs : List X) → AllPairs R (x ∷ xs) → All (R x) xs
  pairs_head x xs pairs k d inside = pairs 0 (suc k) d (omega arith) (omega arith)

  pub pairs_tail : (x : X) (xs : List X) → AllPairs R (x ∷ xs) → AllPairs R xs
  pairs_tail x xs pairs i j d less inside = pairs (suc i) (suc j) d (omega arith) (omega arith)

  pub pairs_append : (xs ys : List X) → AllPairs R xs → AllPairs R ys → All (λ x. All (R x) ys) xs → AllPairs R (xs ++ ys)
  pairs_append [] ys front back across = back
  pairs_append (x ∷ xs) ys front back across =
      AllPairs-cons R x (xs ++ ys) (All-append (R x) xs ys (pairs_head x xs front) (All-head (λ x. All (R x) ys) x xs across))
      (pairs_append xs ys (pairs_tail x xs front) back (All-tail (λ x. All (R x) ys) x xs across))

-- what is made of each of a list stands in order where the list does
pub pairs_map : {X Y : Type 0} (R : X → X → Type 0) (Q : Y → Y → Type 0) (f : X → Y) → ((a b : X) → R a b → Q (f a) (f b))
    → (xs : List X) → AllPairs R xs → AllPairs Q (map f xs)
pairs_map R Q f from [] pairs = pairs_nil Q
pairs_map R Q f from (x ∷ xs) pairs =
    AllPairs-cons Q (f x) (map f xs) (All-map (Q (f x)) f xs (All-weaker (R x) (λ y. Q (f x) (f y)) (from x) xs (pairs_head R x xs pairs)))
    (pairs_map R Q f from xs (pairs_tail R x xs pairs))
