-- What it means that a step makes a change.
use Rattle.std.specs.Prelude.{ℕ, ◌≡◌, Bool, false, if◌then◌else◌, List, Option, Some, None}
use Rattle.dumb_mode.specs.declared.kind.FileKind.{FileKind}
use Rattle.dumb_mode.specs.Filter.{is_same_kind}
use Rattle.vfs_core.specs.declared.row.FileRow.{FileRow}
use Rattle.write_history.specs.declared.change.Change.{Change}
use Rattle.write_history.specs.World.{World, file_of, id_at}
use Rattle.write_history.specs.Effect.{put_of}
use Rattle.write_history.specs.Fold.{effect_of}
use Rattle.ide_world.specs.declared.step.Step.{Step}
use Rattle.ide_world.specs.declared.step.RowEdit.TheVariants as row_edit
use Rattle.ide_world.specs.declared.step.DocEdit.{DocEdit}
use Rattle.ide_world.specs.declared.step.IndexEdit.{IndexEdit}
use Rattle.ide_world.specs.declared.step.IndexEdit.TheVariants.{Keep, SetBase, SetOverlay, ToOverlay, ToBase, Drop}
use Rattle.overlay_index.specs.Parts.{parts_of}
use Rattle.ide_world.specs.Step.{after_step, row_part}
use Rattle.ide_world.specs.Lawful.{IsLawfulStep}

-- the live file at a path has this id and this row
pub record IsLiveAt (world : World) (path : List ℕ) (id : ℕ) (row : FileRow) : Type 0 where
  pub at_path : id_at world path ≡ Some id
  pub live : row_part (file_of world id) ≡ Some row

-- the step does what the change does, to the same file, and may be carried out
pub record Builds (world : World) (change : Change) (step : Step) : Type 0 where
  pub effect : after_step world step ≡ effect_of world change
  pub same_id : step.id ≡ (put_of world change).id
  pub lawful : IsLawfulStep world step

-- the step that edits the document of a file and no more
abbrev pub edit_step : ℕ → DocEdit → Step
edit_step id edit = record { id = id; row = row_edit.Keep; doc = edit; index = Keep; draws = false }

-- the index data of a text over those of the content, where the file has a kind
abbrev pub overlay_edit : Option FileKind → List ℕ → IndexEdit
overlay_edit None text = Keep
overlay_edit (Some kind) text = SetOverlay (parts_of kind text)

-- the index data that a file shows, as those of its document, where the file has a kind
abbrev pub show_index : Option FileKind → IndexEdit
show_index None = Keep
show_index (Some kind) = ToOverlay

-- what an open makes of index data: where those of the content are there, they are shown on
abbrev pub open_index : Bool → Option FileKind → List ℕ → IndexEdit
open_index is_indexed kind content = if is_indexed then show_index kind else overlay_edit kind content

-- what a commit makes of index data: where the text is the committed one, they stay
abbrev pub commit_index : Bool → Option FileKind → List ℕ → IndexEdit
commit_index is_new kind text = if is_new then overlay_edit kind text else Keep

-- the index data of a file whose kind is another one now: those of its committed text, where it has a kind and is open
abbrev pub renewed_index : Option FileKind → Option (List ℕ) → IndexEdit
renewed_index None committed = Drop
renewed_index (Some kind) None = Drop
renewed_index (Some kind) (Some committed) = SetOverlay (parts_of kind committed)

-- what a move makes of index data: by the file's kind before it and after it, and the committed text where it is open
abbrev pub moved_index : Option FileKind → Option FileKind → Option (List ℕ) → IndexEdit
moved_index before after committed = if is_same_kind before after then Keep else renewed_index after committed

-- what a close makes of index data: those of the document become those of the content
abbrev pub close_index : Option FileKind → IndexEdit
close_index None = Keep
close_index (Some kind) = ToBase

-- what an intake makes of index data
abbrev pub intake_index : Option FileKind → List ℕ → IndexEdit
intake_index None text = Keep
intake_index (Some kind) text = SetBase (parts_of kind text)
