-- Totals over a list in which elements are replaced or added.
use Rattle.std.proofs.Common.{◌≡◌, ℕ, zero, suc, ◌+◌, ◌≤◌, ◌≢◌, List, [], ◌∷◌, ◌++◌, All, set, refl, ap, arith}
use Rattle.list_laws.specs.Totals.{total}
use Rattle.list_laws.proofs.EachLemmas.{some, some-injective, get_elem?}

module _ {A : Type 0} where
  -- the total after the element at `i` was replaced
  pub total-set : (f : A → ℕ) (l : List A) (i : ℕ) (v w : A) → get_elem? l i ≡ some v → total f (set l i w) + f v ≡ total f l + f w
  total-set f (x ∷ xs) (suc i) v w e = omega (arith, total-set f xs i v w e)
  total-set f _ _ v w e = grind (arith, e)

  -- an element weighs no more than all
  pub total-at : (f : A → ℕ) (l : List A) (i : ℕ) (v : A) → get_elem? l i ≡ some v → f v ≤ total f l
  total-at f (x ∷ xs) (suc i) v e = omega (arith, total-at f xs i v e)
  total-at f _ _ v e = grind (arith, e)

  -- two elements weigh no more than all
  pub total-two : (f : A → ℕ) (l : List A) (i j : ℕ) (v w : A) → j ≢ i → get_elem? l i ≡ some v → get_elem? l j ≡ some w → f v + f w ≤ total f l
  total-two f (x ∷ xs) zero (suc j) v w n e d = omega (arith, ap f (some-injective x v e), total-at f xs j w d)
  total-two f (x ∷ xs) (suc i) zero v w n e d = omega (arith, ap f (some-injective x w d), total-at f xs i v e)
  total-two f (x ∷ xs) (suc i) (suc j) v w n e d = omega (arith, total-two f xs i j v w (λ h. n (ap suc h)) e d)
  total-two f _ i j v w n e d = grind (arith, n, e)

  pub total-append : (f : A → ℕ) (l m : List A) → total f (l ++ m) ≡ total f l + total f m
  total-append f [] m = omega arith
  total-append f (x ∷ xs) m = omega (arith, total-append f xs m)

  -- what two weights add up to, together
  pub total-plus : (f g : A → ℕ) (l : List A) → total (λ x. f x + g x) l ≡ total f l + total g l
  total-plus f g [] = refl
  total-plus f g (x ∷ xs) = omega (arith, total-plus f g xs)

  -- where each element weighs as much or less, so do all
  pub total-below : (f g : A → ℕ) (l : List A) → ((i : ℕ) (v : A) → get_elem? l i ≡ some v → f v ≤ g v) → total f l ≤ total g l
  total-below f g [] h = omega arith
  total-below f g (x ∷ xs) h = omega (arith, h 0 x refl, total-below f g xs (λ i v e. h (suc i) v e))

  -- an element that weighs the same in the place of another changes no total
  pub total-same : (f : A → ℕ) (l : List A) (i : ℕ) (v w : A) → get_elem? l i ≡ some v → f w ≡ f v → total f (set l i w) ≡ total f l
  total-same f l i v w e same = omega (arith, total-set f l i v w e)

  -- where all weigh nothing, so does each
  pub total-zero : (f : A → ℕ) (l : List A) → total f l ≡ 0 → All (λ x. f x ≡ 0) l
  total-zero f (x ∷ xs) e (suc k) d less = total-zero f xs (omega arith) k d (omega arith)
  total-zero f _ e _ d less = omega arith

  -- where one element weighs all by `f`, and each that weighs nothing by `f` weighs nothing by `g`, it weighs all by `g` too
  pub total-only : (f g : A → ℕ) (l : List A) (i : ℕ) (v : A) → get_elem? l i ≡ some v → total f l ≡ f v
      → ((j : ℕ) (w : A) → get_elem? l j ≡ some w → f w ≡ 0 → g w ≡ 0) → total g l ≡ g v
  total-only f g (x ∷ xs) zero v e all h =
      let is : x ≡ v = some-injective x v e in let rest : total f xs ≡ 0 = omega (arith, ap f is) in
      omega (arith, ap g is, rest, total-below g f xs (λ j w d. omega (arith, h (suc j) w d (omega (arith, total-at f xs j w d)))))
  total-only f g (x ∷ xs) (suc i) v e all h =
      let less = total-at f xs i v e in omega (arith, h 0 x refl (omega arith), total-only f g xs i v e (omega arith) (λ j w d. h (suc j) w d))
  total-only f g [] i v e all h = absurd (cc)
