-- The sightings for which a soft question was cancelled.
use Rattle.std.specs.Prelude.{ℕ}

-- the number of the pass that asked, how many attempts it was allowed, and its sights before and after the call
pub record Sighting : Type 0 where
  pub seat : ℕ
  pub attempts : ℕ
  pub before : ℕ
  pub after : ℕ
