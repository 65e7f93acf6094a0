-- What one attempt of a soft read gives, and what it sees.
use Rattle.std.specs.Prelude.{ℕ, ◌≡◌, ◌+◌, ◌<◌, Result, Ok, Err, min}
use Rattle.action_lock.specs.Counts.{counted, counted_by}
use Rattle.action_lock.specs.declared.refusal.ReadRefusal.{ReadRefusal}
use Rattle.action_lock.specs.declared.refusal.ReadRefusal.TheVariants as read
use Rattle.action_lock.specs.declared.view.View.{View}
use Rattle.nonblocking_read.specs.declared.attempt.Miss.{Miss}
use Rattle.nonblocking_read.specs.declared.attempt.Miss.TheVariants as miss
use Rattle.nonblocking_read.specs.declared.soft_read.SoftRefusal.{SoftRefusal}
use Rattle.nonblocking_read.specs.declared.soft_read.SoftRefusal.TheVariants as refusal
use Rattle.nonblocking_read.specs.declared.work.Stopped.{Stopped}
use Rattle.nonblocking_read.specs.declared.work.Stopped.TheVariants as stopped

-- what an attempt gives whose work gave this
abbrev pub outcome_of : {X : Type 0} → Result X Stopped → Result X Miss
outcome_of (Ok out) = Ok out
outcome_of (Err stopped.Seen) = Err miss.Seen
outcome_of (Err stopped.OutOfMemory) = Err miss.OutOfMemory

-- why an attempt gives no answer whose read was refused
abbrev pub miss_of : ReadRefusal → Miss
miss_of (read.Pending word) = miss.Seen
miss_of (read.Turn word) = miss.Turn
miss_of read.OutOfMemory = miss.OutOfMemory

-- the count of sights behind an attempt that missed: one more where it gave way, else the same
abbrev pub SeesAfter : Miss → ℕ → ℕ → Type 0
SeesAfter miss.Seen before after = after ≡ counted before
SeesAfter miss.Turn before after = after ≡ before
SeesAfter miss.OutOfMemory before after = after ≡ before

-- and behind any attempt
abbrev pub SeesBy : {X : Type 0} → Result X Miss → ℕ → ℕ → Type 0
SeesBy (Ok out) before after = after ≡ before
SeesBy (Err why) before after = SeesAfter why before after

-- an answer comes with as many looks as were owed, as far as a `u64` counts
abbrev pub LooksBy : {X : Type 0} → Result X Miss → ℕ → ℕ → ℕ → Type 0
LooksBy (Ok out) looks before after = min after 18446744073709551615 ≡ counted_by looks (min before 18446744073709551615)
LooksBy (Err why) looks before after = Unit {0}

-- what the looks of a work that owed so many left, by what it gave
pub record IsMade {E X : Type 0} (made : Result X Miss) (looks : ℕ) (v w : View E) : Type 0 where
  pub sights : SeesBy made v.sights w.sights
  pub times : LooksBy made looks v.checks w.checks

-- how many attempts are spent behind one that missed, or that no more may follow
abbrev pub SpendsAfter : Miss → (spent attempts : ℕ) → Result ℕ SoftRefusal → Type 0
SpendsAfter miss.Seen spent attempts (Ok now) = (now < attempts) × (now ≡ spent + 1)
SpendsAfter miss.Seen spent attempts (Err (refusal.Cancelled n)) = (n ≡ attempts) × (spent + 1 ≡ attempts)
SpendsAfter miss.Seen spent attempts (Err refusal.OutOfMemory) = ⊥
SpendsAfter miss.Turn spent attempts (Ok now) = now ≡ spent
SpendsAfter miss.Turn spent attempts (Err why) = ⊥
SpendsAfter miss.OutOfMemory spent attempts (Ok now) = ⊥
SpendsAfter miss.OutOfMemory spent attempts (Err (refusal.Cancelled n)) = ⊥
SpendsAfter miss.OutOfMemory spent attempts (Err refusal.OutOfMemory) = Unit {0}
