-- A document, and what an edit makes of it.
use Rattle.std.specs.Prelude.{ℕ, Bool, true, false, List, ◌++◌, take, drop}

-- the document of an open file: its text, the text as last committed, and whether the file has its text
pub record Document : Type 0 where
  pub text : List ℕ
  pub committed : List ℕ
  pub saved : Bool

-- a document as it is opened: both texts are the file's content
abbrev pub opened : List ℕ → Document
opened content = record { text = content; committed = content; saved = true }

-- a list with a piece put in before a place
abbrev pub with_piece : ℕ → List ℕ → List ℕ → List ℕ
with_piece at piece text = take at text ++ piece ++ drop at text

-- a list without what stands from one place up to another
abbrev pub without_part : ℕ → ℕ → List ℕ → List ℕ
without_part from to text = take from text ++ drop to text

-- the piece goes in before the offset; the file no longer has the text
abbrev pub inserted : ℕ → List ℕ → Document → Document
inserted at piece doc = record { text = with_piece at piece doc.text; committed = doc.committed; saved = false }

-- the characters from one offset up to another go; the file no longer has the text
abbrev pub erased : ℕ → ℕ → Document → Document
erased from to doc = record { text = without_part from to doc.text; committed = doc.committed; saved = false }

-- the committed text becomes the text
abbrev pub committed : Document → Document
committed doc = record { text = doc.text; committed = doc.text; saved = doc.saved }

-- the file has the text
abbrev pub marked_saved : Document → Document
marked_saved doc = record { text = doc.text; committed = doc.committed; saved = true }

-- the text becomes another, which the file has; the committed text stays
abbrev pub replaced : List ℕ → Document → Document
replaced text doc = record { text = text; committed = doc.committed; saved = true }
