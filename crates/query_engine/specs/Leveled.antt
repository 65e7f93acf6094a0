-- The rows of types that were found, with their levels.
use Rattle.std.specs.Prelude.{ℕ, ◌≤◌, ◌==◌, List, [], ◌∷◌, filter}
use Rattle.std.specs.List.{AllByRecursion}
use Rattle.stub_tree.specs.declared.stub.Stub.{Stub}
use Rattle.write_history.specs.World.{World}
use Rattle.query_engine.specs.declared.answer.LevelRow.{LevelRow}
use Rattle.query_engine.specs.Inheritors.{ListedType}
use Rattle.query_engine.specs.Search.{Location}
use Rattle.query_engine.specs.Listed.{row_found}

-- a type that was found, as it is listed
abbrev pub seen_listing : Location × (ℕ × Stub) → ListedType
seen_listing found = (found.0.0, found.1.1)

-- its row
abbrev pub seen_row : World → Location × (ℕ × Stub) → LevelRow
seen_row world found = record { level = found.1.0; row = row_found world (seen_listing found) }

-- the levels of rows don't fall
abbrev pub RowsRise : List LevelRow → Type 0
RowsRise [] = Unit {0}
RowsRise (row ∷ rows) = AllByRecursion (λ other. row.level ≤ other.level) rows × RowsRise rows

-- the rows of a level
abbrev pub with_row_level : ℕ → List LevelRow → List LevelRow
with_row_level level rows = filter (λ row. row.level == level) rows
