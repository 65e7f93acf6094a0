-- The property keys of a text, by the format of Java's `.properties` files.
use Rattle.std.specs.Prelude.{ℕ, suc, ◌≢◌, ◌<◌, ◌≤◌, ◌&&◌, ◌==◌, if◌then◌else◌, List, [], ◌∷◌, length, map, filter}
use Rattle.std.specs.List.{flat_map}
use Rattle.std.specs.Ordering.{nat_cmp}
use Rattle.std.specs.Cmp.Lexicographic.{slice_cmp}
use Rattle.std.specs.Str.{bytes_eq}
use Rattle.file_index.specs.KeyRows.{by_keys}
use Rattle.property_index.specs.Characters.{backslash, ends_key, meant_by}
use Rattle.property_index.specs.Lines.{Line, placed_from, natural_lines, logical_lines}

unfoldable mutual
  -- The key of a logical line: up to the first `=`, `:` or white space that no backslash took.
  pub key_in : Line → List ℕ
  key_in [] = []
  key_in (c ∷ cs) =
      if c.code == backslash then key_behind_backslash cs
      else if ends_key c.code then []
      else c.code ∷ key_in cs

  -- the same from behind a backslash, which takes a character whatever it is
  pub key_behind_backslash : Line → List ℕ
  key_behind_backslash [] = []
  key_behind_backslash (c ∷ cs) = meant_by c.code ∷ key_in cs

-- a key with its offset, unless the key has no character
abbrev pub listed_key : List ℕ → ℕ → List (List ℕ × ℕ)
listed_key [] at = []
listed_key (c ∷ cs) at = (c ∷ cs, at) ∷ []

-- the key of a logical line, with the offset of the line's first character, a backslash where one comes first
abbrev pub keys_in : Line → List (List ℕ × ℕ)
keys_in [] = []
keys_in (c ∷ cs) = listed_key (key_in (c ∷ cs)) c.at

-- the keys of what is left of a text, each with its offset
abbrev pub keys_left : Line → List (List ℕ × ℕ)
keys_left left = flat_map keys_in (logical_lines (natural_lines left))

-- the keys of a text, each with its offset, in order
unfoldable pub keys_of : List ℕ → List (List ℕ × ℕ)
keys_of text = keys_left (placed_from 0 text)

-- the same by the keys, and those of one key by their offsets
unfoldable pub key_rows : List ℕ → List (List ℕ × ℕ)
key_rows text = by_keys (slice_cmp nat_cmp) (keys_of text)

-- the offsets of the keys that equal this one, in order
abbrev pub places_of_key : List ℕ → List ℕ → List ℕ
places_of_key key text = map (λ row. row.1) (filter (λ row. bytes_eq key row.0) (keys_of text))

-- No key is empty. The offsets rise, none of them is before the first number, and all are below the other.
abbrev pub RiseFrom : ℕ → ℕ → List (List ℕ × ℕ) → Type 0
RiseFrom from len [] = Unit {0}
RiseFrom from len (row ∷ rows) = (row.0 ≢ []) × (from ≤ row.1) × (row.1 < len) × RiseFrom (suc row.1) len rows
