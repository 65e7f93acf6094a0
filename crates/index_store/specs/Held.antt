-- Internal: the map in which a store holds its entries, by their texts and the codes of their kinds.
use Rattle.std.specs.Prelude.{◌≡◌, ℕ, Bool, true, false, List, ◌∷◌, ◌++◌, length, map}
use Rattle.std.specs.List.{AllByRecursion}
use Rattle.std.specs.Ordering.{nat_cmp, ordering_then}
use Rattle.std.specs.declared.cmp.Ordering.{Ordering}
use Rattle.std.specs.Cmp.Lexicographic.{slice_cmp}
use Rattle.ide_text.specs.Text.{IsText}
use Rattle.byte_fields.specs.Spelling.{name}
use Rattle.overlay_index.specs.Parts.{Parts, parts_of}
use Rattle.index_store.specs.Data.{StoreEntry, code_of, data_of}
use Rattle.index_store.specs.Spelling.{StoreRow, data_bytes}
use Rattle.index_store.specs.Lawful.{IsData}
use Rattle.index_store.specs.Reading.{kind_by}
use Rattle.index_store.specs.Entries.{with_entry}

-- the characters of a text, and the code of a kind
abbrev pub Key : Type 0
Key = List ℕ × ℕ

-- the key of an entry
abbrev pub key_of : StoreEntry → Key
key_of e = (e.text, code_of e.kind)

-- the entry of a key
abbrev pub entry_of : Key → StoreEntry
entry_of k = record { text = k.0; kind = kind_by k.1 }

-- keys go as their entries do
abbrev pub key_cmp : Key → Key → Ordering
key_cmp a b = ordering_then (slice_cmp nat_cmp a.0 b.0) (nat_cmp a.1 b.1)

-- data as the rows of the indexes, and as bytes
abbrev pub Stored : Type 0
Stored = Parts × List ℕ

-- these are the data of an entry's text, and its bytes can be read again
pub record AreDataOf (e : StoreEntry) (d : Stored) : Type 0 where
  pub rows : d.0 ≡ parts_of e.kind e.text
  pub spelled : d.1 ≡ data_bytes e.kind (data_of e.kind e.text)
  pub lawful : IsData e.kind (length e.text) (data_of e.kind e.text)

-- a key of an entry, with the data of its text
pub record IsHeld (h : Key × Stored) : Type 0 where
  pub coded : h.0 ≡ key_of (entry_of h.0)
  pub text : IsText h.0.0
  pub right : AreDataOf (entry_of h.0) h.1

-- each is such
abbrev pub AreHeld : List (Key × Stored) → Type 0
AreHeld hs = AllByRecursion IsHeld hs

-- the entries that are held
abbrev pub entries_in : List (Key × Stored) → List StoreEntry
entries_in hs = map (λ (h : Key × Stored). entry_of h.0) hs

-- an entry that is held, as bytes
abbrev pub held_bytes : Key × Stored → List ℕ
held_bytes h = h.0.1 ∷ (name h.0.0 ++ h.1.1)

-- what becomes of entries at a row whose data are right, and at one whose data aren't
abbrev pub IsTakenIn : Bool → StoreRow → List StoreEntry → List StoreEntry → Type 0
IsTakenIn true row old new = (row.1 ≡ data_bytes row.0.kind (data_of row.0.kind row.0.text)) × (new ≡ with_entry row.0 old)
IsTakenIn false row old new = (row.1 ≡ data_bytes row.0.kind (data_of row.0.kind row.0.text) → ⊥) × (new ≡ old)
