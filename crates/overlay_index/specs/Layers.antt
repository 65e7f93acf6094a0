-- Two layers of rows: for each file its base, and over that of some files an overlay, which hides it.
use Rattle.std.specs.Prelude.{◌≡◌, ℕ, ◌<◌, Bool, true, false, ◌==◌, if◌then◌else◌, List, [], ◌∷◌, Option, Some, None}
use Rattle.std.specs.List.{flat_map}
use Rattle.std.specs.Option.{unwrap_or, is_some}
use Rattle.std.specs.Ordering.{nat_cmp}
use Rattle.std.specs.Str.{bytes_eq}
use Rattle.std.specs.Map.{lookup}
use Rattle.std.specs.BTreeMap.{is_at}
use Rattle.stub_tree.specs.declared.stub.Stub.{Stub}
use Rattle.file_index.specs.Rows as index
use Rattle.file_index.specs.Rows.{Table, rows_in_file}
use Rattle.overlay_index.specs.Parts.{Parts, no_parts}

-- the rows that are shown, by kind of key, and the room made beside them
pub record Shown : Type 0 where
  pub types : Table (List ℕ) Stub
  pub supers : Table (List ℕ) Stub
  pub methods : Table (List ℕ) Stub
  pub words : Table (List ℕ) ℕ
  pub keys : Table (List ℕ) ℕ

-- what layers hold: the rows that are shown, and the base of each file that has an overlay; `None` is room alone
pub record LayersView : Type 0 where
  pub shown : Shown
  pub hidden : List (ℕ × Option Parts)

-- the rows of a file that are shown
abbrev pub parts_in : Shown → ℕ → Parts
parts_in shown file = record {
  types = rows_in_file file shown.types.files;
  supers = rows_in_file file shown.supers.files;
  methods = rows_in_file file shown.methods.files;
  words = rows_in_file file shown.words.files;
  keys = rows_in_file file shown.keys.files;
}

-- no file has rows but those from 1 to the last
abbrev pub IsFilledTo : Shown → ℕ → Type 0
IsFilledTo shown last = (parts_in shown 0 ≡ no_parts) × ((file : ℕ) → last < file → parts_in shown file ≡ no_parts)

-- the base of a file that has an overlay
abbrev pub hidden_in : List (ℕ × Option Parts) → ℕ → Option Parts
hidden_in hidden file = unwrap_or (lookup (is_at (nat_cmp file)) hidden) None

-- whether there is a place for the base of a file
abbrev pub has_place : List (ℕ × Option Parts) → ℕ → Bool
has_place hidden file = is_some (lookup (is_at (nat_cmp file)) hidden)

-- the base of a file: no rows where none was set
unfoldable pub base_of : LayersView → ℕ → Parts
base_of held file = unwrap_or (hidden_in held.hidden file) (parts_in held.shown file)

-- the overlay of a file, if it has one
unfoldable pub overlay_of : LayersView → ℕ → Option Parts
overlay_of held file = if is_some (hidden_in held.hidden file) then Some (parts_in held.shown file) else None

-- what a file shows: its overlay, which hides its base, or else its base
abbrev pub shown_of : LayersView → ℕ → Parts
shown_of held file = unwrap_or (overlay_of held file) (base_of held file)

-- the base that a file's overlay hides, if it has one
abbrev pub covered_of : LayersView → ℕ → List Parts
covered_of held file = if is_some (overlay_of held file) then base_of held file ∷ [] else []

-- the tables have room to show these rows for a file
pub record HasTableRoom (shown : Shown) (file : ℕ) (parts : Parts) : Type 0 where
  pub types : index.HasRoom bytes_eq shown.types file parts.types
  pub supers : index.HasRoom bytes_eq shown.supers file parts.supers
  pub methods : index.HasRoom bytes_eq shown.methods file parts.methods
  pub words : index.HasRoom bytes_eq shown.words file parts.words
  pub keys : index.HasRoom bytes_eq shown.keys file parts.keys

-- there is room to give a file these rows, as its base or as its overlay
pub record HasRoom (held : LayersView) (file : ℕ) (parts : Parts) : Type 0 where
  pub tables : HasTableRoom held.shown file parts
  pub place : has_place held.hidden file ≡ true

-- there is a place for the base of a file, so that what it shows may become its overlay
abbrev pub HasPlace : LayersView → ℕ → Type 0
HasPlace held file = has_place held.hidden file ≡ true

-- what had a place still has it
abbrev pub KeepsPlace : LayersView → LayersView → Type 0
KeepsPlace old new = (file : ℕ) → HasPlace old file → HasPlace new file

-- what had room still has it
abbrev pub KeepsRoom : LayersView → LayersView → Type 0
KeepsRoom old new = (file : ℕ) (parts : Parts) → HasRoom old file parts → HasRoom new file parts

-- what had room still has it, but for one file
abbrev pub KeepsRoomBut : ℕ → LayersView → LayersView → Type 0
KeepsRoomBut changed old new = (file : ℕ) (parts : Parts) → (changed == file) ≡ false → HasRoom old file parts → HasRoom new file parts

-- a file gave up its places in the tables under the keys of these rows, but for keys that its own rows have
pub record GivesUp (file : ℕ) (gone : List Parts) (old new : Shown) : Type 0 where
  pub types : index.GivesUp bytes_eq file (flat_map (λ (parts : Parts). parts.types) gone) old.types new.types
  pub supers : index.GivesUp bytes_eq file (flat_map (λ (parts : Parts). parts.supers) gone) old.supers new.supers
  pub methods : index.GivesUp bytes_eq file (flat_map (λ (parts : Parts). parts.methods) gone) old.methods new.methods
  pub words : index.GivesUp bytes_eq file (flat_map (λ (parts : Parts). parts.words) gone) old.words new.words
  pub keys : index.GivesUp bytes_eq file (flat_map (λ (parts : Parts). parts.keys) gone) old.keys new.keys

-- the same files stand under the same keys
pub record KeepsPlaces (old new : Shown) : Type 0 where
  pub types : new.types.room ≡ old.types.room
  pub supers : new.supers.room ≡ old.supers.room
  pub methods : new.methods.room ≡ old.methods.room
  pub words : new.words.room ≡ old.words.room
  pub keys : new.keys.room ≡ old.keys.room

-- a table in which the file is known has rows of it
pub record IsKnownByRows (file : ℕ) (shown : Shown) : Type 0 where
  pub types : index.IsKnownByRows file shown.types.files
  pub supers : index.IsKnownByRows file shown.supers.files
  pub methods : index.IsKnownByRows file shown.methods.files
  pub words : index.IsKnownByRows file shown.words.files
  pub keys : index.IsKnownByRows file shown.keys.files

-- a file has no place left but those that its rows need, once these rows went
pub record IsSwept (file : ℕ) (gone : List Parts) (old new : LayersView) : Type 0 where
  pub places : GivesUp file gone old.shown new.shown
  pub known : IsKnownByRows file new.shown
  pub hidden : has_place new.hidden file ≡ is_some (hidden_in new.hidden file)

-- no file shows any row but those from 1 to the last
pub record IsShownTo (held : LayersView) (last : ℕ) : Type 0 where
  pub first : shown_of held 0 ≡ no_parts
  pub rest : (file : ℕ) → last < file → shown_of held file ≡ no_parts
