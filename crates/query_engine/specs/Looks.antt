-- How often a call looks at its watch, and what it sees.
use Rattle.std.specs.Prelude.{ℕ, ◌≡◌, ◌+◌, ◌/◌, ◌%◌, ◌==◌, if◌then◌else◌, List, length, take, Result, Ok, Err}
use Rattle.std.specs.Option.{option_map_or}
pub use Rattle.action_lock.specs.Counts.{counted_by}
pub use Rattle.action_lock.specs.Polls.{LooksThrough, StopsUnseen, StopsAtSight}
use Rattle.dumb_mode.specs.declared.kind.FileKind.TheVariants.{Java}
use Rattle.write_history.specs.World.{World, lowest_unready}
use Rattle.queries.specs.declared.query.Query.{Query}
use Rattle.queries.specs.declared.query.Query.TheVariants as query
use Rattle.query_engine.specs.declared.answer.PlaceRow.{PlaceRow}
use Rattle.query_engine.specs.declared.answer.Finding.{Finding}
use Rattle.query_engine.specs.declared.answer.Finding.TheVariants.{Rows, Outline, Words, Usages, Inheritors, Keys, Counts}
use Rattle.query_engine.specs.declared.answer.AskRefusal.{AskRefusal}
use Rattle.query_engine.specs.declared.answer.AskRefusal.TheVariants.{NoSuchFile, NotReady, Cancelled, OutOfMemory}
use Rattle.query_engine.specs.Inheritors.{met_count}
use Rattle.query_engine.specs.Reply.{NoAnswer, reply, of_world, uses_in, types_of}

-- the number of rows after which a call looks once more
abbrev pub rows_a_look : ℕ
rows_a_look = 256

-- the number of rows of an answer
abbrev pub row_count : Finding → ℕ
row_count (Rows rows) = length rows
row_count (Outline rows) = length rows
row_count (Words rows) = length rows
row_count (Usages name rows) = length rows
row_count (Inheritors rows) = length rows
row_count (Keys rows) = length rows
row_count (Counts files docs unready) = 0

-- how often the call with this answer looks after its first look, where no look sees anything: once for each full 256 rows (of usages and inheritors see
-- `looks_after`)
abbrev pub later_looks : Result Finding NoAnswer → ℕ
later_looks (Ok answer) = row_count answer / rows_a_look
later_looks (Err why) = 0

-- where no file is unready so many, else none
abbrev pub where_smart : World → ℕ → ℕ
where_smart world n = option_map_or (λ file. 0) (lowest_unready world) n

-- the first use of a name in each file that uses it
abbrev pub first_uses : List ℕ → World → List PlaceRow
first_uses name world = of_world Java (λ id file. take 1 (uses_in name id file)) world

-- How often a question looks in a world after its first look, where no look sees anything: once for each full 256 rows. For usages once for
-- each file in the answer instead, and for inheritors once for each full 256 types that the search meets, repeats counted (`met_count`).
abbrev pub looks_after : World → Query → ℕ
looks_after world (query.Usages name) = where_smart world (length (first_uses name world))
looks_after world (query.Inheritors name) = where_smart world (met_count name (types_of world) / rows_a_look)
looks_after world query = later_looks (reply world query)

-- how often a question looks in a world, where no look sees anything: once as the call begins, and then as said above, no more and no less
abbrev pub MayLook : World → Query → ℕ → Type 0
MayLook world query n = n ≡ 1 + looks_after world query

-- how often a call looks when it has made so many rows
abbrev pub looks_at : ℕ → ℕ
looks_at rows = if rows % rows_a_look == 0 then 1 else 0

-- how a call looks, by what it gives, where so many looks lead to its end
abbrev pub HasLooked : {W X : Type 0} → (W → ℕ) → (W → ℕ) → (W → W → Type 0) → Result X AskRefusal → ℕ → W → W → Type 0
HasLooked looks_of sights_of stays (Ok answer) n old new = LooksThrough looks_of sights_of n old new
HasLooked looks_of sights_of stays (Err NoSuchFile) n old new = LooksThrough looks_of sights_of n old new
HasLooked looks_of sights_of stays (Err (NotReady file)) n old new = LooksThrough looks_of sights_of n old new
HasLooked looks_of sights_of stays (Err Cancelled) n old new = StopsAtSight looks_of sights_of stays n old new
HasLooked looks_of sights_of stays (Err OutOfMemory) n old new = StopsUnseen looks_of sights_of n old new

-- how the call that asks a question looks, by what it gives: as often as is said above, and no more often where it ends early
pub record HasLookedFor {W X : Type 0} (looks_of sights_of : W → ℕ) (stays : W → W → Type 0) (world : World) (query : Query)
    (result : Result X AskRefusal) (old new : W) : Type 0 where
  pub number : ℕ
  pub may : MayLook world query number
  pub looked : HasLooked looks_of sights_of stays result number old new

-- the refusals of a call that ended early: it was stopped, or memory ran out
abbrev pub EndsEarly : AskRefusal → Type 0
EndsEarly NoSuchFile = ⊥
EndsEarly (NotReady file) = ⊥
EndsEarly Cancelled = Unit {0}
EndsEarly OutOfMemory = Unit {0}
