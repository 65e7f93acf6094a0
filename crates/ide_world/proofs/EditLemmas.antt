-- What edits of a document make of what readers see of it.
use Rattle.ide_world.proofs.Words.{ℕ, ◌≡◌, List, arith, length-append, length-drop, length-take-le, Option, is_some, Document, DocEdit, edited_document}
use Rattle.ide_world.proofs.Words.{IsDocEditFit, IsTextEditFit, is_open_after}
pub use Rattle.ide_world.proofs.Words.{option_map, summary_of, edited_summary, edited_committed, edited_text}

abbrev pub text_of_document : Option Document → Option (List ℕ)
text_of_document document = option_map (λ d. d.text) document

abbrev pub committed_of : Option Document → Option (List ℕ)
committed_of document = option_map (λ d. d.committed) document

-- what readers see of the document after an edit is made of what they saw before it
pub summary-edited : (edit : DocEdit) (d : Option Document) → IsDocEditFit edit d
    → option_map summary_of (edited_document edit d) ≡ edited_summary edit (option_map summary_of d)
summary-edited edit d fit = grind (arith, length-append, length-drop, length-take-le)

pub committed-edited : (edit : DocEdit) (d : Option Document) → IsDocEditFit edit d
    → committed_of (edited_document edit d) ≡ edited_committed edit (committed_of d)
committed-edited edit d fit = grind arith

pub text-edited : (edit : DocEdit) (d : Option Document) → IsDocEditFit edit d
    → text_of_document (edited_document edit d) ≡ edited_text edit (text_of_document d)
text-edited edit d fit = grind arith

pub text_edit_fits : (edit : DocEdit) (d : Option Document) → IsDocEditFit edit d → IsTextEditFit edit (text_of_document d)
text_edit_fits edit d fit = grind arith

pub is_some-edited : (edit : DocEdit) (d : Option Document) → IsDocEditFit edit d → is_some (edited_document edit d) ≡ is_open_after edit (is_some d)
is_some-edited edit d fit = grind arith
