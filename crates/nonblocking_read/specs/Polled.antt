-- How a run of a piece of work looks at its watch, and what attempts at it cost.
use Rattle.std.specs.Prelude.{ℕ, ◌≡◌, ◌<◌, Result, Ok, Err}
use Rattle.action_lock.specs.Counts.{counted_by}
use Rattle.action_lock.specs.Polls.{LooksThrough, StopsUnseen, StopsAtSight}
use Rattle.nonblocking_read.specs.declared.soft_read.SoftRefusal.{SoftRefusal}
use Rattle.nonblocking_read.specs.declared.soft_read.SoftRefusal.TheVariants as refusal
use Rattle.nonblocking_read.specs.declared.work.Stopped.{Stopped}
use Rattle.nonblocking_read.specs.declared.work.Stopped.TheVariants as stopped

-- how a run looks, by what it gives, where so many looks are owed: so often and without a sighting for an answer; where it is stopped, at most
-- so often, and the last look and no other saw something
abbrev pub HasPolled : {W X : Type 0} → (W → ℕ) → (W → ℕ) → (W → W → Type 0) → Result X Stopped → ℕ → W → W → Type 0
HasPolled looks_of sights_of stays (Ok out) n old new = LooksThrough looks_of sights_of n old new
HasPolled looks_of sights_of stays (Err stopped.Seen) n old new = StopsAtSight looks_of sights_of stays n old new
HasPolled looks_of sights_of stays (Err stopped.OutOfMemory) n old new = StopsUnseen looks_of sights_of n old new

-- the count of sights rose by fewer than so many, up to 2^64 - 1
pub record HasSpentLess (attempts before after : ℕ) : Type 0 where
  pub spent : ℕ
  pub fewer : spent < attempts
  pub risen : after ≡ counted_by spent before

-- what a soft read saw that was allowed so many attempts and refused: where it was cancelled exactly as many sightings
abbrev pub HasSpentAll : SoftRefusal → (attempts before after : ℕ) → Type 0
HasSpentAll (refusal.Cancelled n) attempts before after = (n ≡ attempts) × (after ≡ counted_by attempts before)
HasSpentAll refusal.OutOfMemory attempts before after = HasSpentLess attempts before after

-- what a soft read saw: an answer comes with fewer sightings than attempts
abbrev pub HasSpent : {X : Type 0} → Result X SoftRefusal → (attempts before after : ℕ) → Type 0
HasSpent (Ok out) attempts before after = HasSpentLess attempts before after
HasSpent (Err why) attempts before after = HasSpentAll why attempts before after
