-- The documents that are open, by the ids of their files, and the room that was made beside them.
use Rattle.std.specs.Prelude.{ℕ, ◌≡◌, ◌<◌, ◌≤◌, ◌==◌, false, if◌then◌else◌, List, length, filter, Option, None, is_some, option_map, slice_index_or}
use Rattle.std.specs.Option.{option_map_or}
use Rattle.document_buf.specs.Document.{Document}

-- a document, and how many characters more its buffer takes
pub record HeldDoc : Type 0 where
  pub document : Document
  pub spare : ℕ

-- a place for each id from 0 on, with the document that is open there
pub record DocsView : Type 0 where
  pub places : List (Option HeldDoc)

-- what stands at an id's place
abbrev pub doc_at : DocsView → ℕ → Option HeldDoc
doc_at held id = slice_index_or held.places id None

-- the document of an id, where it is open
abbrev pub document_of : DocsView → ℕ → Option Document
document_of held id = option_map (λ doc. doc.document) (doc_at held id)

-- how many characters more the document of an id takes without memory
abbrev pub room_of : DocsView → ℕ → ℕ
room_of held id = option_map_or (λ doc. doc.spare) (doc_at held id) 0

-- how many documents are open
abbrev pub open_of : DocsView → ℕ
open_of held = length (filter is_some held.places)

-- the id has a place, so that a document may be opened there without memory
pub record HasPlace (held : DocsView) (id : ℕ) : Type 0 where
  pub named : 0 < id
  pub made : id < length held.places

-- what had a place or room still has it, but for the room of one id
pub record KeepsRoomBut (old new : DocsView) (id : ℕ) : Type 0 where
  pub places : (other : ℕ) → HasPlace old other → HasPlace new other
  pub room : (other : ℕ) → (id == other) ≡ false → room_of old other ≤ room_of new other

-- what had a place or room still has it
pub record KeepsRoom (old new : DocsView) : Type 0 where
  pub places : (other : ℕ) → HasPlace old other → HasPlace new other
  pub room : (other : ℕ) → room_of old other ≤ room_of new other

-- the document of one id becomes this one or goes, and all others are as they were
abbrev pub Becomes : DocsView → DocsView → ℕ → Option Document → Type 0
Becomes old new id document = (other : ℕ) → document_of new other ≡ (if id == other then document else document_of old other)

-- the documents are those of before
abbrev pub SameDocuments : DocsView → DocsView → Type 0
SameDocuments old new = (other : ℕ) → document_of new other ≡ document_of old other
