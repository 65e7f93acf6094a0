-- Steps that differ in nothing but the room beside the texts of the documents that they bring.
use Rattle.std.specs.Prelude.{◌≡◌, List, map}
use Rattle.document_buf.specs.DocsView.{HeldDoc}
use Rattle.ide_world.specs.declared.step.DocEdit.{DocEdit}
use Rattle.ide_world.specs.declared.step.DocEdit.TheVariants.{Keep, Open, Insert, Erase, Commit, MarkSaved, Replace, Close}
use Rattle.ide_world.specs.declared.step.Step.{Step}

-- a document with no room beside its text
abbrev pub bare_document : HeldDoc → HeldDoc
bare_document doc = record { document = doc.document; spare = 0 }

-- an edit whose document has no room beside its text
abbrev pub bare_edit : DocEdit → DocEdit
bare_edit Keep = Keep
bare_edit (Open doc) = Open (bare_document doc)
bare_edit (Insert at text) = Insert at text
bare_edit (Erase from to) = Erase from to
bare_edit (Commit text) = Commit text
bare_edit MarkSaved = MarkSaved
bare_edit (Replace doc) = Replace (bare_document doc)
bare_edit Close = Close

-- a step whose document has no room beside its text
abbrev pub bare_step : Step → Step
bare_step step = record { id = step.id; row = step.row; doc = bare_edit step.doc; index = step.index; draws = step.draws }

-- the steps are the same but for the room beside the texts of their documents
abbrev pub AreAlike : List Step → List Step → Type 0
AreAlike steps others = map bare_step others ≡ map bare_step steps
