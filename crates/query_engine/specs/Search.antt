-- A search for the types that come from a name, level by level.
use Rattle.std.specs.Prelude.{ℕ, ◌≡◌, ◌≤◌, ◌==◌, Bool, false, ◌||◌, if◌then◌else◌, List, [], ◌∷◌, ◌++◌, map, filter, Option, Some, None, is_some}
use Rattle.std.specs.Option.{option_map_or}
use Rattle.std.specs.declared.cmp.Ordering.{Ordering}
use Rattle.std.specs.List.{fold, AllByRecursion}
use Rattle.std.specs.Map.{lookup}
use Rattle.std.specs.Str.{bytes_eq}
use Rattle.std.specs.Ordering.{nat_cmp, ordering_then}
use Rattle.std.specs.BTreeMap.{insert_entry, is_at}
use Rattle.stub_tree.specs.declared.stub.Stub.{Stub}
use Rattle.query_engine.specs.Fits.{has_super}
use Rattle.query_engine.specs.Inheritors.{ListedType, inheritors_of, is_asked}

-- where a declaration stands: a file's id and an offset
abbrev pub Location : Type 0
Location = ℕ × ℕ

-- the order of locations: by file, then by offset
abbrev pub location_cmp : Location → Location → Ordering
location_cmp a b = ordering_then (nat_cmp a.0 b.0) (nat_cmp a.1 b.1)

-- where a listed type stands
abbrev pub location_of : ListedType → Location
location_of t = (t.0, t.1.at)

-- types that were found, in the order of their locations, each with its level and its entry
abbrev pub Seen : Type 0
Seen = List (Location × (ℕ × Stub))

-- a type was found at the location
abbrev pub is_seen : Location → Seen → Bool
is_seen location seen = is_some (lookup (is_at (location_cmp location)) seen)

-- how far a search has come: the types that were found, and the names of those of the level at hand
pub record Reached : Type 0 where
  pub seen : Seen
  pub next : List (List ℕ)

-- one more type is met at a level: it counts where it wasn't found before
abbrev pub meet : ℕ → Reached → ListedType → Reached
meet level reached t =
    if is_seen (location_of t) reached.seen then reached
    else record { seen = insert_entry location_cmp reached.seen (location_of t) (level, t.1); next = reached.next ++ t.1.name ∷ [] }

-- all types that name a name are met at a level
abbrev pub meet_all : ℕ → Reached → List ListedType → Reached
meet_all level reached types = fold (meet level) reached types

-- A name is asked for at a level, among these types: those that name it are met, and where it was asked for before, nothing happens.
pub record HasAsked (types : List ListedType) (level : ℕ) (name : List ℕ) (asked : List (List ℕ)) (reached : Reached) (asked' : List (List ℕ)) (reached' : Reached) : Type 0 where
  pub asks : (other : List ℕ) → is_asked other asked' ≡ (bytes_eq other name || is_asked other asked)
  pub met : reached' ≡ (if is_asked name asked then reached else meet_all level reached (filter (λ t. has_super name t.1) types))

-- names are asked for one after another
abbrev pub AskedEach : List ListedType → ℕ → List (List ℕ) → List (List ℕ) → Reached → List (List ℕ) → Reached → Type 0
AskedEach types level [] asked reached asked' reached' = (asked' ≡ asked) × (reached' ≡ reached)
AskedEach types level (name ∷ names) asked reached asked' reached' =
    (a : List (List ℕ)) × (r : Reached) × HasAsked types level name asked reached a r × AskedEach types level names a r asked' reached'

-- a type at the front of what was found, where it has a level
abbrev pub with_level : ListedType → Option ℕ → Seen → Seen
with_level t None rest = rest
with_level t (Some level) rest = (location_of t, (level, t.1)) ∷ rest

-- those of the types that have a level
abbrev pub leveled : (ListedType → Option ℕ) → List ListedType → Seen
leveled levels [] = []
leveled levels (t ∷ types) = with_level t (levels t) (leveled levels types)

-- the level of a type is this one
abbrev pub is_level : ℕ → Option ℕ → Bool
is_level level other = option_map_or (λ l. l == level) other false

-- the types that have this level
abbrev pub with_this : ℕ → (ListedType → Option ℕ) → List ListedType → List ListedType
with_this level levels types = filter (λ t. is_level level (levels t)) types

-- types with their level
abbrev pub tagged : ℕ → List ListedType → List (ℕ × ListedType)
tagged level types = map (λ t. (level, t)) types

-- the levels of types that were found don't fall
abbrev pub LevelsRise : List (ℕ × ListedType) → Type 0
LevelsRise [] = Unit {0}
LevelsRise (x ∷ xs) = AllByRecursion (λ y. x.0 ≤ y.0) xs × LevelsRise xs

-- a search ended: what it found are the types that come from the name, each with its level
pub record IsFound (types : List ListedType) (name : List ℕ) (seen : Seen) : Type 0 where
  pub levels : ListedType → Option ℕ
  pub is : seen ≡ leveled levels types
  pub each : (level : ℕ) → filter (λ found. found.0 == level) (inheritors_of name types) ≡ tagged level (with_this level levels types)
  pub rise : LevelsRise (inheritors_of name types)
