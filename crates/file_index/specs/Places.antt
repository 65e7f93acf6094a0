-- Which files may have rows under a key: entries of a key and the ids of files, in any order of the keys.
use Rattle.std.specs.Prelude.{ℕ, ◌≡◌, ◌<◌, ◌≤◌, Bool, ◌==◌, List, [], length, slice_index_or, Result, MatchResult}
use Rattle.std.specs.Option.{unwrap_or}
use Rattle.std.specs.List.{list_any}
use Rattle.std.specs.Map.{lookup}

-- whether the id is among the ids
abbrev pub has_id : ℕ → List ℕ → Bool
has_id id ids = list_any (λ other. id == other) ids

-- where the id is among rising ones, or where it would go
abbrev pub IsPlaceOf : ℕ → List ℕ → Result ℕ ℕ → Type 0
IsPlaceOf id ids found = MatchResult found
    (λ at. (at < length ids) × (slice_index_or ids at 0 ≡ id))
    (λ at. (at ≤ length ids) × ((k : ℕ) → k < at → slice_index_or ids k 0 < id) × ((k : ℕ) → at ≤ k → k < length ids → id < slice_index_or ids k 0))

module _ {K : Type 0} where
  -- the ids under the key, or none
  abbrev pub ids_at : (K → K → Bool) → K → List (K × List ℕ) → List ℕ
  ids_at eq key places = unwrap_or (lookup (eq key) places) []

  -- whether the file stands under the key
  abbrev pub is_placed : (K → K → Bool) → List (K × List ℕ) → K → ℕ → Bool
  is_placed eq places key file = has_id file (ids_at eq key places)
