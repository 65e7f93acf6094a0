-- Counts of looks and sights, which never fall, and stand still at the last value of a `u64`.
use Rattle.std.specs.Prelude.{ℕ, ◌+◌, ◌<◌, ◌≤◌, ◌⊎◌, max, min}

-- one more, up to 2^64 - 1
abbrev pub counted : ℕ → ℕ
counted n = max n (min (n + 1) 18446744073709551615)

-- so many more, up to 2^64 - 1
abbrev pub counted_by : ℕ → ℕ → ℕ
counted_by n count = max count (min (count + n) 18446744073709551615)

-- the count rose by so many at least, or it has come to its last value
abbrev pub HasRisenBy : ℕ → ℕ → ℕ → Type 0
HasRisenBy by old new = (old + by ≤ new) ⊎ (18446744073709551615 ≤ new)

-- the count rose, or it has come to its last value
abbrev pub HasRisen : ℕ → ℕ → Type 0
HasRisen old new = (old < new) ⊎ (18446744073709551615 ≤ new)
