-- What a document is made of.
use Rattle.std.specs.Prelude.{◌≡◌, false}
use Rattle.ide_text.specs.Text.{IsText}
use Rattle.document_buf.specs.DocsView.{HeldDoc}
use Rattle.document_buf.specs.Gap.{joined_of}
use Rattle.document_buf.specs.declared.doc.Doc.TheInside.{Inside}

-- what contracts see of a document
abbrev pub doc_of : Inside → HeldDoc
doc_of inside = record {
  document = record { text = joined_of inside.state.value.buffer; committed = inside.state.value.committed; saved = inside.state.value.saved };
  spare = inside.state.value.buffer.spare;
}

-- its text is a text, and it is the committed one where nothing was edited since
pub record IsDoc (inside : Inside) : Type 0 where
  pub text : IsText (joined_of inside.state.value.buffer)
  pub unedited : inside.state.value.edited ≡ false → joined_of inside.state.value.buffer ≡ inside.state.value.committed
