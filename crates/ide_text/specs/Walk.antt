-- A walk over a text that keeps the line and the column of its place.
use Rattle.std.specs.Prelude.{ℕ, ◌≡◌, ◌≤◌, ◌+◌, List, length}
use Rattle.ide_text.specs.Text.{max_chars}
use Rattle.ide_text.specs.Place.{line_at, column_at}
use Rattle.ide_text.specs.declared.line_walk.LineWalk.TheInside.{Inside}
use Rattle.ide_text.specs.declared.line_walk.Spot.{Spot}

-- the text, and the offset to which the walk has come
pub record Walk : Type 0 where
  pub text : List ℕ
  pub at : ℕ

-- what contracts see of a walk
abbrev pub walk_of : Inside → Walk
walk_of inside = record { text = inside.text.now; at = inside.at }

-- the walk stands in the text, which isn't too long, and knows the line and the column of its place
pub record IsPlaced (inside : Inside) : Type 0 where
  pub short : length inside.text.now ≤ max_chars
  pub within : inside.at ≤ length inside.text.now
  pub line : inside.line ≡ line_at inside.text.now inside.at
  pub column : inside.column ≡ column_at inside.text.now inside.at
  pub few : (inside.line ≤ inside.at + 1) × (inside.column ≤ inside.at + 1)

-- a spot has the line and the column of its offset
pub record IsAt (text : List ℕ) (spot : Spot) : Type 0 where
  pub line : spot.line ≡ line_at text spot.at
  pub column : spot.column ≡ column_at text spot.at
  pub few : (spot.line ≤ spot.at + 1) × (spot.column ≤ spot.at + 1)
