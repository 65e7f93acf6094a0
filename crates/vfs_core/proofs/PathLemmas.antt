-- The map from paths to ids, before and after a change.
use Rattle.vfs_core.proofs.Words.{◌≡◌, ℕ, not, ◌&&◌, ◌||◌, false, cond, List, Some, None, Option, IsTrue, bytes_eq, arith, is_some, if◌then◌else◌, lookup}
use Rattle.vfs_core.proofs.Words.{keys_of, same_text, is_some-lookup, has_name, id_kept}

abbrev Ids : Type 0
Ids = List (List ℕ × Option ℕ)

-- what stands at a path, where it has a place
abbrev kept_at : Ids → List ℕ → Option (Option ℕ)
kept_at ids path = lookup (bytes_eq path) ids

-- a path has a place where it is among the keys
pub has_name-keys : (ids : Ids) (path : List ℕ) → is_some (kept_at ids path) ≡ has_name (keys_of ids) path
has_name-keys ids path = is_some-lookup (bytes_eq path) ids

-- an id that is kept for a path has a place, by the entries alone
pub place_kept : (ids : Ids) (path : List ℕ) (id : ℕ) → id_kept path ids ≡ Some id → IsTrue (has_name (keys_of ids) path)
place_kept ids path id kept = grind (arith, kept, has_name-keys ids path)

module _ (old new : Ids) (path other : List ℕ) where
  -- what stands at a path is written, or goes
  abbrev Becomes : Option (Option ℕ) → Type 0
  Becomes at = kept_at new other ≡ cond (bytes_eq path other) at (kept_at old other)

  -- what is kept for a path after a write for another
  pub id_kept-updated : (id : Option ℕ) → Becomes (Some id) → id_kept other new ≡ (if bytes_eq path other then id else id_kept other old)
  id_kept-updated id put = grind (arith, put)

  -- which paths have a place after a write for one
  pub places-updated : (id : Option ℕ) → Becomes (Some id) → IsTrue (has_name (keys_of old) other) → IsTrue (has_name (keys_of new) other)
  places-updated id put had = grind (arith, put, had, has_name-keys old other, has_name-keys new other)

  -- a place for a path changes no id
  pub id_kept-reserved : false ≡ is_some (kept_at old path) → Becomes (Some None) → id_kept other new ≡ id_kept other old
  id_kept-reserved absent put = grind (arith, absent, put, same_text path other)

  -- a path without an id that goes changes no id
  pub id_kept-swept : is_some (id_kept path old) ≡ false → Becomes None → id_kept other new ≡ id_kept other old
  id_kept-swept none gone = grind (arith, none, gone, same_text path other)

  -- and which paths have a place then
  pub places-swept : is_some (id_kept path old) ≡ false → Becomes None
      → has_name (keys_of new) other ≡ (has_name (keys_of old) other && (not (bytes_eq path other) || is_some (id_kept path old)))
  places-swept none gone = grind (arith, none, gone, has_name-keys old other, has_name-keys new other)
