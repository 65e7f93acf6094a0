-- The step of each kind of change makes it.
use Rattle.ide_world.proofs.Words.{ℕ, IsSoundLive, ◌≡◌, List, arith, Some, Option, FileRow, Document, World, file_of, file_with, row_part, document_part}
use Rattle.ide_world.proofs.Words.{IsLiveAt, rules, nat_tests, Bool, true, false, ◌∷◌, None, IfSome, option_map, bytes_decides, opened, HeldDoc}
use Rattle.ide_world.proofs.Words.{FileKind, kind_of, is_indexed_at, Create, Write, OpenDoc, Save, CloseDoc, Intake, Move, next_id, refusal_of, past_all}
use Rattle.ide_world.proofs.Words.{live_is_made, none_at_free, accepted_reasons, Step, DocEdit, Indexed, edited_index, AreSoundFiles, HoldsLive, Summary}
use Rattle.ide_world.proofs.Words.{summary_of, Task, IsOfWorld, Builds, open_index, moved_index, close_index, intake_index}
use Rattle.ide_world.specs.declared.step.IndexEdit.{IndexEdit}
use Rattle.ide_world.proofs.FoundLemmas.{indexed_at}
use Rattle.ide_world.specs.declared.step.RowEdit.TheVariants as row_edit
use Rattle.ide_world.specs.declared.step.DocEdit.TheVariants as doc_edit
use Rattle.ide_world.specs.declared.step.IndexEdit.TheVariants as index_edit

abbrev put_step : ℕ → FileRow → DocEdit → IndexEdit → Bool → Step
put_step id row doc index draws = record { id = id; row = row_edit.Put row; doc = doc; index = index; draws = draws }

abbrev row_with : List ℕ → List ℕ → ℕ → Option ℕ → FileRow
row_with path content stamp indexed = record { path = path; content = content; stamp = stamp; indexed = indexed }

-- a create makes a file at the next id
pub create_builds : (w : World) (path text : List ℕ) → refusal_of w (Create path text) ≡ None
    → Builds w (Create path text) (put_step (next_id w) (row_with path text w.next_stamp None) doc_edit.Keep index_edit.Keep true)
create_builds w path text accepted = grind (arith, nat_tests, past_all (None ∷ w.files) (next_id w), none_at_free w path)

-- an intake makes the file indexed at the stamp, with the data as those of its content
pub intake_builds : (w : World) (task : Task) (row : FileRow) → AreSoundFiles w → row_part (file_of w task.file) ≡ Some row
    → refusal_of w (Intake task.file task.stamp) ≡ None → IsOfWorld w task
    → Builds w (Intake task.file task.stamp)
    (put_step task.file (row_with row.path row.content row.stamp (Some task.stamp)) doc_edit.Keep (intake_index (kind_of row.path) task.content) false)
intake_builds w task row sound live accepted of_world =
    grind (arith, nat_tests, of_world.content, sound.apart, live_is_made w.files task.file)

-- the kind of the file that takes data in, where it has one
pub intake_kind : (w : World) (task : Task) (row : FileRow) → row_part (file_of w task.file) ≡ Some row
    → refusal_of w (Intake task.file task.stamp) ≡ None → IsOfWorld w task → IfSome (kind_of row.path) (λ k. k ≡ task.kind)
intake_kind w task row live accepted of_world = grind (arith, nat_tests, of_world.kind)

-- the edit of the document, by what was seen of it
abbrev pub write_edit : Option Summary → HeldDoc → DocEdit
write_edit None new = doc_edit.Keep
write_edit (Some summary) new = doc_edit.Replace new

-- the index data of a moved file, whose kind stays or is another one
index_moved : (before after : Option FileKind) (doc : Option Document) (row : FileRow) (to : List ℕ) (stamp : ℕ) (held : Indexed)
    → IsSoundLive stamp (file_with doc row) → HoldsLive before (file_with doc row) held
    → HoldsLive after (file_with doc (row_with to row.content stamp row.indexed))
    (edited_index (moved_index before after (option_map (λ d. d.committed) doc)) held)
index_moved before after doc row to stamp held s h = grind arith

-- changes of a live file at a path
module _ {w : World} {path : List ℕ} {id : ℕ} {row : FileRow} (sound : AreSoundFiles w) (h : IsLiveAt w path id row) where
  -- an open brings the document of the content
  pub open_builds : (new : HeldDoc) → refusal_of w (OpenDoc path) ≡ None → new.document ≡ opened row.content → Builds w (OpenDoc path) (record {
    id = id;
    row = row_edit.Keep;
    doc = doc_edit.Open new;
    index = open_index (is_indexed_at row.stamp row.indexed) (kind_of row.path) row.content;
    draws = false;
  })
  open_builds new accepted is = grind (arith, nat_tests, indexed_at row.stamp row.indexed)

  -- a save gives the file the text of its document
  pub save_builds : (text : List ℕ) → Some text ≡ option_map (λ d. d.text) (document_part (file_of w id))
      → Builds w (Save path) (put_step id (row_with row.path text w.next_stamp row.indexed) doc_edit.MarkSaved index_edit.Keep true)
  save_builds text t = grind (arith, nat_tests, sound.apart)

  -- a close takes the document away, and its index data become those of the content
  pub close_builds : refusal_of w (CloseDoc path) ≡ None
      → Builds w (CloseDoc path) (put_step id (row_with row.path row.content row.stamp (Some row.stamp)) doc_edit.Close (close_index (kind_of row.path)) false)
  close_builds accepted = grind (arith, nat_tests, sound.apart, sound.sound id, bytes_decides)

  -- a write gives the file other content, and its document too where it is open
  pub write_builds : (text : List ℕ) (new : HeldDoc) (summary : Option Summary)
      → summary ≡ option_map summary_of (document_part (file_of w id)) → new.document ≡ opened text
      → Builds w (Write path text) (put_step id (row_with row.path text w.next_stamp row.indexed) (write_edit summary new) index_edit.Keep true)
  write_builds text new summary e is = grind (arith, nat_tests, sound.apart)

  -- a move gives the file another path
  pub move_builds : (to : List ℕ) → refusal_of w (Move path to) ≡ None
      → Builds w (Move path to) (put_step id (row_with to row.content w.next_stamp row.indexed) doc_edit.Keep
      (moved_index (kind_of row.path) (kind_of to) (option_map (λ d. d.committed) (document_part (file_of w id)))) true)
  move_builds to accepted =
      let live : file_of w id ≡ Some (file_with (document_part (file_of w id)) row) = grind arith in
      let reasons = accepted_reasons w (Move path to) accepted in
      search (rules, live, h.at_path, live_is_made w.files id _ live, rw live at (sound.sound id), reasons, none_at_free w to, index_moved)
