-- Counts of faults. A count never falls, and stands still at its last value.
use Rattle.std.specs.Prelude.{◌≡◌, ℕ, ◌+◌, ◌-◌, ◌^◌, ◌<◌, ◌⊎◌, min}

-- a fault was met between two counts, the old one first: the count rose, or it stands at its last value
abbrev pub HasFault : ℕ → ℕ → Type 0
HasFault old new = (old < new) ⊎ (new ≡ 2 ^ 64 - 1)

-- one more, or still the last value
abbrev pub next_count : ℕ → ℕ
next_count n = min (n + 1) (2 ^ 64 - 1)

-- two counts as one
abbrev pub sum_of_counts : ℕ → ℕ → ℕ
sum_of_counts a b = min (a + b) (2 ^ 64 - 1)

-- the count of an object that never meets a fault
abbrev pub zero_faults : ℕ
zero_faults = 0
