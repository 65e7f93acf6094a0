-- What a search for the first element that passes a test finds.
use Rattle.std.proofs.Common.{◌≡◌, ℕ, ◌<◌, Bool, true, false, List, length, get_or, Some, None, arith}
use Rattle.std.specs.List.{position}
use Rattle.std.proofs.lemmas.Bool.Decides.{nat_tests}
use Rattle.std.proofs.lemmas.List.Sums.{fails_before_first, position_or_len_is}

module _ {A : Type 0} where
  -- where none is found, none passes
  pub position-None : (test : A → Bool) (xs : List A) → position test xs ≡ None → (k : ℕ) (d : A) → k < length xs → test (get_or xs k d) ≡ false
  position-None test xs e k d less = grind (arith, nat_tests, fails_before_first test xs k d, e)

  -- the first element that passes is the one that is found
  pub position_first : (test : A → Bool) (xs : List A) (place : ℕ) (d : A) → place < length xs → test (get_or xs place d) ≡ true
      → ((k : ℕ) → k < place → test (get_or xs k d) ≡ false) → position test xs ≡ Some place
  position_first test xs place d inside passes before = rw (position_or_len_is test xs place d (omega arith) before (λ _. passes)) (grind (arith, nat_tests))
