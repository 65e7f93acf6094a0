-- How often a piece of work looks at its watch, and what it sees: by the watch's counts of looks and of sightings.
use Rattle.std.specs.Prelude.{ℕ, ◌≡◌, ◌≤◌}
use Rattle.action_lock.specs.Counts.{counted, counted_by}

-- so many looks, and none saw that the work is to end
pub record LooksThrough {W : Type 0} (looks_of sights_of : W → ℕ) (n : ℕ) (old new : W) : Type 0 where
  pub looks : looks_of new ≡ counted_by n (looks_of old)
  pub unseen : sights_of new ≡ sights_of old

-- at most so many looks, and none saw that the work is to end
pub record StopsUnseen {W : Type 0} (looks_of sights_of : W → ℕ) (n : ℕ) (old new : W) : Type 0 where
  pub some : looks_of old ≤ looks_of new
  pub few : looks_of new ≤ counted_by n (looks_of old)
  pub unseen : sights_of new ≡ sights_of old

-- at most so many looks, of which the last and no other saw that the work is to end; `stays` says of two moments of a watch that only
-- looks came between them
pub record StopsAtSight {W : Type 0} (looks_of sights_of : W → ℕ) (stays : W → W → Type 0) (n : ℕ) (old new : W) : Type 0 where
  pub some : looks_of old ≤ looks_of new
  pub few : looks_of new ≤ counted_by n (looks_of old)
  -- the watch before the last look of the call
  pub before : W
  pub begun : stays old before
  pub earlier : looks_of old ≤ looks_of before
  pub ended : stays before new
  pub last : looks_of new ≡ counted (looks_of before)
  pub unseen : sights_of before ≡ sights_of old
  pub seen : sights_of new ≡ counted (sights_of before)
