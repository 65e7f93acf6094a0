-- A test and its two outcomes.
use Rattle.std.proofs.Common.{◌≡◌, Bool, true, false, refl}

-- by whether a test holds, with the outcome as an equation
pub bool_cases : (b : Bool) (P : Bool → Type 0) → (b ≡ true → P true) → (b ≡ false → P false) → P b
bool_cases b P = elim b as (λ v. (v ≡ true → P true) → (v ≡ false → P false) → P v) [ true ↦ λ holds fails. holds refl | false ↦ λ holds fails. fails refl ]
