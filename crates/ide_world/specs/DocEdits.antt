-- What an edit of a document makes of it.
use Rattle.std.specs.Prelude.{ℕ, ◌≡◌, ◌≤◌, ◌+◌, List, length, Option, Some, None, option_map, IsSome, IsSomeAnd}
use Rattle.ide_text.specs.Text.{max_chars}
use Rattle.document_buf.specs.Document.{Document, inserted, erased, committed, marked_saved, replaced, opened}
use Rattle.ide_world.specs.declared.step.DocEdit.{DocEdit}
use Rattle.ide_world.specs.declared.step.DocEdit.TheVariants.{Keep, Open, Insert, Erase, Commit, MarkSaved, Replace, Close}

-- the document after an edit
abbrev pub edited_document : DocEdit → Option Document → Option Document
edited_document Keep document = document
edited_document (Open doc) document = Some doc.document
edited_document (Insert at text) document = option_map (inserted at text) document
edited_document (Erase from to) document = option_map (erased from to) document
edited_document (Commit text) document = option_map committed document
edited_document MarkSaved document = option_map marked_saved document
edited_document (Replace doc) document = option_map (replaced doc.document.text) document
edited_document Close document = None

-- an insert lies inside, and its text fits
pub record IsInsertFit (at : ℕ) (text : List ℕ) (document : Document) : Type 0 where
  pub inside : at ≤ length document.text
  pub fits : length document.text + length text ≤ max_chars

-- an erased part lies inside
pub record IsEraseFit (from to : ℕ) (document : Document) : Type 0 where
  pub ordered : from ≤ to
  pub inside : to ≤ length document.text

-- when an edit may be made
abbrev pub IsDocEditFit : DocEdit → Option Document → Type 0
IsDocEditFit (Open doc) document = document ≡ None
IsDocEditFit (Insert at text) document = IsSomeAnd document (IsInsertFit at text)
IsDocEditFit (Erase from to) document = IsSomeAnd document (IsEraseFit from to)
IsDocEditFit (Commit text) document = IsSomeAnd document (λ d. text ≡ d.text)
IsDocEditFit (Replace doc) document = IsSome document × (doc.document ≡ opened doc.document.text)
IsDocEditFit edit document = Unit {0}

-- how many characters an edit inserts
abbrev pub inserted_by : DocEdit → ℕ
inserted_by (Insert at text) = length text
inserted_by edit = 0

-- the document that an edit brings has room for so many characters more
abbrev pub IsWide : ℕ → DocEdit → Type 0
IsWide n (Open doc) = n ≤ doc.spare
IsWide n (Replace doc) = n ≤ doc.spare
IsWide n edit = Unit {0}
