-- Sources and sinks in memory, as contracts see them.
use Rattle.std.specs.Prelude.{ℕ, List}

-- the bytes that are left, how many one read gives at most, and how often the end was told
pub record Unread : Type 0 where
  pub left : List ℕ
  pub most : ℕ
  pub ends : ℕ

-- the bytes that were taken, how many more there is room for, how many one write takes at most, and
-- how many faults there were
pub record Filled : Type 0 where
  pub taken : List ℕ
  pub room : ℕ
  pub most : ℕ
  pub faults : ℕ
