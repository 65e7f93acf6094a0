-- A set of ids: each id is on or off, and those that are on are counted.
use Rattle.std.specs.Prelude.{ℕ, Bool, false, List, Option, unwrap_or, is_some}
use Rattle.std.specs.Ordering.{nat_cmp}
use Rattle.std.specs.Map.{lookup}
use Rattle.std.specs.BTreeMap.{is_at}

-- the ids for which a mark is kept, and how many are on
pub record IdSet : Type 0 where
  pub entries : List (ℕ × Bool)
  pub count : ℕ

-- what is kept for an id
abbrev pub mark_in : List (ℕ × Bool) → ℕ → Option Bool
mark_in entries id = lookup (is_at (nat_cmp id)) entries

-- whether an id is on; one for which nothing is kept is off
abbrev pub is_on : IdSet → ℕ → Bool
is_on marks id = unwrap_or (mark_in marks.entries id) false

-- whether an id has a place, so that it can be turned on without memory
abbrev pub has_mark : IdSet → ℕ → Bool
has_mark marks id = is_some (mark_in marks.entries id)
