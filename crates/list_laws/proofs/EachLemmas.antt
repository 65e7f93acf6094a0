-- What holds of each element of a list, by its place.
use Rattle.std.proofs.Common.{◌≡◌, ◌≢◌, ℕ, zero, suc, List, [], ◌∷◌, ◌++◌, set, subst}
pub use mathlib.Core.Option.{some, some-injective}
pub use lib.ListN.{get_elem?}

-- it holds of each element
abbrev pub Each : {A : Type 0} → (A → Type 0) → List A → Type 0
Each {A} P xs = (i : ℕ) (x : A) → get_elem? xs i ≡ some x → P x

module _ {A : Type 0} (P : A → Type 0) where
  -- it holds of each, where it holds of what was set and of all others
  pub each_set : (xs : List A) (i : ℕ) (y : A) → P y → ((j : ℕ) (x : A) → j ≢ i → get_elem? xs j ≡ some x → P x) → Each P (set xs i y)
  each_set (z ∷ xs) zero y here others zero x e = subst P (some-injective y x e) here
  each_set (z ∷ xs) (suc i) y here others (suc j) x e = each_set xs i y here (λ k u other t. others (suc k) u (λ same. other (cc)) t) j x e
  each_set _ _ y here others j x e = others j x (λ same. absurd (cc)) e

  -- it holds of each, where it holds of the last and of all before
  pub each_snoc : (xs : List A) (y : A) → Each P xs → P y → Each P (xs ++ y ∷ [])
  each_snoc [] y all last zero x e = subst P (some-injective y x e) last
  each_snoc (z ∷ xs) y all last (suc j) x e = each_snoc xs y (λ k u t. all (suc k) u t) last j x e
  each_snoc _ y all last j x e = all j x e
