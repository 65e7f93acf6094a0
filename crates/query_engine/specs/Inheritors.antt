-- The types that come from a name: those that name it behind `extends` or `implements`, those that name these, and so on.
use Rattle.std.specs.Prelude.{ℕ, zero, suc, ◌≡◌, ◌≤◌, ◌<◌, ◌⊎◌, ◌+◌, Bool, true, not, if◌then◌else◌, List, [], ◌∷◌, ◌++◌, length, map, filter}
use Rattle.std.specs.Prelude.{Option, Some, None, All, Contains}
use Rattle.std.specs.List.{list_any}
use Rattle.std.specs.Str.{bytes_eq}
use Rattle.stub_tree.specs.declared.stub.Stub.{Stub}
use Rattle.query_engine.specs.Fits.{has_super}

-- a type that a file lists: the file's id and its entry
abbrev pub ListedType : Type 0
ListedType = ℕ × Stub

-- the type names one of these behind `extends` or `implements`
abbrev pub names_any : List (List ℕ) → ListedType → Bool
names_any names t = list_any (λ name. has_super name t.1) names

-- the names of some types
abbrev pub names_of : List ListedType → List (List ℕ)
names_of types = map (λ t. t.1.name) types

-- Level by level: the types of a level name one of the last level's names, and aren't of a level before. At most so many levels.
unfoldable pub levels_from : ℕ → ℕ → List (List ℕ) → List ListedType → List (ℕ × ListedType)
levels_from zero level names left = []
levels_from (suc more) level names left =
    let found = filter (names_any names) left in
    map (λ t. (level, t)) found ++ levels_from more (level + 1) (names_of found) (filter (λ t. not (names_any names t)) left)

-- the types that come from a name, each with its level: by level, then as they are listed
abbrev pub inheritors_of : List ℕ → List ListedType → List (ℕ × ListedType)
inheritors_of name types = levels_from (length types) 1 (name ∷ []) types

-- the type is among those that were found, with this level
abbrev pub IsOnLevel : List (ℕ × ListedType) → ℕ → ListedType → Type 0
IsOnLevel found level t = Contains {X = ℕ × ListedType} found (level, t)

-- a chain from a name: its first type names it, and each other one names the type before it
abbrev pub IsChain : List ℕ → List ListedType → Type 0
IsChain name [] = Unit {0}
IsChain name (t ∷ ts) = (has_super name t.1 ≡ true) × IsChain t.1.name ts

-- the last of some types
abbrev pub last_of : List ListedType → Option ListedType
last_of [] = None
last_of (t ∷ []) = Some t
last_of (t ∷ u ∷ ts) = last_of (u ∷ ts)

-- a chain of so many of these types leads from a name to a type
pub record EndsChain (types : List ListedType) (name : List ℕ) (len : ℕ) (t : ListedType) : Type 0 where
  pub chain : List ListedType
  pub listed : All (Contains types) chain
  pub linked : IsChain name chain
  pub many : length chain ≡ len
  pub ends : last_of chain ≡ Some t

-- no chain from the name to the type is shorter
abbrev pub IsLeast : List ListedType → List ℕ → ℕ → ListedType → Type 0
IsLeast types name len t = (other : ℕ) → EndsChain types name other t → len ≤ other

-- one stands before the other: by file, then by offset
abbrev pub StandsBefore : ListedType → ListedType → Type 0
StandsBefore t u = (t.0 < u.0) ⊎ ((t.0 ≡ u.0) × (t.1.at < u.1.at))

-- one stands before the other: by level, then by file, then by offset
abbrev pub Precedes : ℕ × ListedType → ℕ × ListedType → Type 0
Precedes a b = (a.0 < b.0) ⊎ ((a.0 ≡ b.0) × StandsBefore a.1 b.1)

-- the name is one of these
abbrev pub is_asked : List ℕ → List (List ℕ) → Bool
is_asked name asked = list_any (bytes_eq name) asked

-- names, each of them once
abbrev pub each_once : List (List ℕ) → List (List ℕ)
each_once [] = []
each_once (name ∷ names) = if is_asked name names then each_once names else name ∷ each_once names

-- how many of some names these types have behind `extends` and `implements`, each type each name once
abbrev pub asked_supers : List ListedType → List (List ℕ) → ℕ
asked_supers [] asked = 0
asked_supers (t ∷ types) asked = length (filter (λ name. is_asked name asked) (each_once t.1.supers)) + asked_supers types asked

-- the names that a search for the types that come from a name asks for: the name itself, and the names of these types
abbrev pub asked_for : List ℕ → List ListedType → List (List ℕ)
asked_for name types = name ∷ names_of (map (λ found. found.1) (inheritors_of name types))

-- How many types such a search meets: each type once for each of these names that it has behind `extends` or `implements`.
abbrev pub met_count : List ℕ → List ListedType → ℕ
met_count name types = asked_supers types (asked_for name types)
