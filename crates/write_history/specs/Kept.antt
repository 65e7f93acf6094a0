-- What contracts see of a history.
use Rattle.std.specs.Prelude.{ℕ, List}
use Rattle.write_history.specs.declared.entry.Entry.{Entry}

-- the entries in order, and for how many more there is room
pub record Kept : Type 0 where
  pub entries : List Entry
  pub spare : ℕ
