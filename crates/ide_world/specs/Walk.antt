-- What a step makes of one part of a file, or of the id at a path: a reader of a draft goes once over its steps.
use Rattle.std.specs.Prelude.{ℕ, ◌≡◌, ◌≤◌, IfSome, [], ◌∷◌, ◌+◌, ◌-◌, Bool, true, false, not, ◌&&◌, ◌==◌, if◌then◌else◌, List, length, Option, Some, None, option_map, bytes_eq}
use Rattle.std.specs.Option.{option_and_then}
use Rattle.ide_text.specs.Text.{max_chars}
use Rattle.vfs_core.specs.declared.row.FileRow.{FileRow}
use Rattle.document_buf.specs.Document.{Document, with_piece, without_part}
use Rattle.ide_world.specs.declared.step.Step.{Step}
use Rattle.ide_world.specs.declared.step.RowEdit.{RowEdit}
use Rattle.ide_world.specs.declared.step.RowEdit.TheVariants as row_edit
use Rattle.ide_world.specs.declared.step.DocEdit.{DocEdit}
use Rattle.ide_world.specs.declared.step.DocEdit.TheVariants.{Keep, Open, Insert, Erase, Commit, MarkSaved, Replace, Close}
use Rattle.ide_world.specs.RowEdits.{edited_row}
use Rattle.ide_world.specs.declared.summary.Summary.{Summary}

-- the row of an id after a step
abbrev pub row_after : ℕ → Option FileRow → Step → Option FileRow
row_after id row step = if step.id == id then edited_row step.row row else row

-- what a document looks like
abbrev pub summary_of : Document → Summary
summary_of document = record { len = length document.text; saved = document.saved }

-- what a document looks like after an edit
abbrev pub edited_summary : DocEdit → Option Summary → Option Summary
edited_summary Keep summary = summary
edited_summary (Open doc) summary = Some (summary_of doc.document)
edited_summary (Insert at text) summary = option_map (λ l. record { len = l.len + length text; saved = false }) summary
edited_summary (Erase from to) summary = option_map (λ l. record { len = l.len - (to - from); saved = false }) summary
edited_summary (Commit text) summary = summary
edited_summary MarkSaved summary = option_map (λ l. record { len = l.len; saved = true }) summary
edited_summary (Replace doc) summary = option_map (λ l. record { len = length doc.document.text; saved = true }) summary
edited_summary Close summary = None

-- what the document of an id looks like after a step
abbrev pub summary_after : ℕ → Option Summary → Step → Option Summary
summary_after id summary step = if step.id == id then edited_summary step.doc summary else summary

-- the committed text of a document after an edit
abbrev pub edited_committed : DocEdit → Option (List ℕ) → Option (List ℕ)
edited_committed (Open doc) text = Some doc.document.committed
edited_committed (Commit new) text = option_map (λ t. new) text
edited_committed Close text = None
edited_committed edit text = text

-- the committed text of the document of an id after a step
abbrev pub committed_after : ℕ → Option (List ℕ) → Step → Option (List ℕ)
committed_after id text step = if step.id == id then edited_committed step.doc text else text

-- the text of a document after an edit
abbrev pub edited_text : DocEdit → Option (List ℕ) → Option (List ℕ)
edited_text (Open doc) text = Some doc.document.text
edited_text (Insert at piece) text = option_map (with_piece at piece) text
edited_text (Erase from to) text = option_map (without_part from to) text
edited_text (Replace doc) text = option_map (λ t. doc.document.text) text
edited_text Close text = None
edited_text edit text = text

-- the text of the document of an id after a step
abbrev pub text_after : ℕ → Option (List ℕ) → Step → Option (List ℕ)
text_after id text step = if step.id == id then edited_text step.doc text else text

-- whether an edit leaves a document's two texts as they are
abbrev pub keeps_texts : DocEdit → Bool
keeps_texts Keep = true
keeps_texts MarkSaved = true
keeps_texts edit = false

-- whether a step changes a text of the document of an id
abbrev pub edits_texts : ℕ → Step → Bool
edits_texts id step = step.id == id && not (keeps_texts step.doc)

-- an id, unless it is this one
abbrev pub other_than : ℕ → Option ℕ → Option ℕ
other_than id found = option_and_then (λ f. if f == id then None else Some f) found

-- the id at a path after an edit of the row of an id
abbrev pub moved_id : List ℕ → ℕ → RowEdit → Option ℕ → Option ℕ
moved_id path id row_edit.Keep found = found
moved_id path id (row_edit.Put row) found = if bytes_eq row.path path then Some id else other_than id found
moved_id path id row_edit.Remove found = other_than id found

-- the id at a path after a step
abbrev pub id_after : List ℕ → Option ℕ → Step → Option ℕ
id_after path found step = moved_id path step.id step.row found

-- when an edit may be made to a text
abbrev pub IsTextEditFit : DocEdit → Option (List ℕ) → Type 0
IsTextEditFit (Insert at piece) text = IfSome text (λ t. (at ≤ length t) × (length t + length piece ≤ max_chars))
IsTextEditFit (Erase from to) text = IfSome text (λ t. (from ≤ to) × (to ≤ length t))
IsTextEditFit edit text = Unit {0}

-- the edits of the document of an id may be made one after another
abbrev pub AreTextEditsFit : ℕ → Option (List ℕ) → List Step → Type 0
AreTextEditsFit id text [] = Unit {0}
AreTextEditsFit id text (step ∷ steps) =
    ((step.id == id) ≡ true → IsTextEditFit step.doc text) × AreTextEditsFit id (text_after id text step) steps

-- whether a document is open after an edit
abbrev pub is_open_after : DocEdit → Bool → Bool
is_open_after (Open doc) was = true
is_open_after Close was = false
is_open_after edit was = was
