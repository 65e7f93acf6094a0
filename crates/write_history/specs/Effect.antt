-- When a change is refused, and what it does.
use Rattle.std.specs.Prelude.{ℕ, ◌+◌, Bool, true, false, not, ◌||◌, List, [], ◌∷◌, ◌++◌, length, nat_le, nat_lt, ◌==◌, if◌then◌else◌, Option, Some, None, is_some, is_none, option_map, unwrap_or, bytes_eq}
use Rattle.std.specs.Option.{option_map_or, option_and_then}
use Rattle.ide_text.specs.Text.{max_chars}
use Rattle.document_buf.specs.Document.{Document, opened, inserted, erased, committed, marked_saved, replaced}
use Rattle.write_history.specs.declared.change.Change.{Change}
use Rattle.write_history.specs.declared.change.Change.TheVariants.{Create, Write, Delete, OpenDoc, Insert, Erase, Commit, Save, CloseDoc, Intake, Move}
use Rattle.write_history.specs.declared.refusal.Refusal.{Refusal}
use Rattle.write_history.specs.declared.refusal.Refusal.TheVariants.{NoSuchFile, PathTaken, BadPath, NotOpen, AlreadyOpen, BadRange, Unsaved, Uncommitted, Conflict, FilesFull, DocsFull, TextFull, Stale, HistoryFull, OutOfMemory}
use Rattle.write_history.specs.Path.{is_path}
use Rattle.write_history.specs.World.{World, File, file_of, id_at, file_at, document_at, next_id, is_open, count_of}

-- the most files that are ever made
abbrev pub max_files : ℕ
max_files = 65536

-- the most documents that are open at once
abbrev pub max_documents : ℕ
max_documents = 1024

-- the most entries of a history
abbrev pub max_entries : ℕ
max_entries = 1048576

-- a refusal that no rule gives: memory ran out
abbrev pub is_want_of_memory : Refusal → Bool
is_want_of_memory OutOfMemory = true
is_want_of_memory why = false

-- a reason to refuse, and whether it stands
pub record Reason : Type 0 where
  pub stands : Bool
  pub refusal : Refusal

-- the first reason that stands
abbrev pub first_standing : List Reason → Option Refusal
first_standing [] = None
first_standing (reason ∷ reasons) = if reason.stands then Some reason.refusal else first_standing reasons

-- the stamp of a file, where it is live
abbrev pub stamp_of : Option File → ℕ
stamp_of file = option_map_or (λ f. f.stamp) file 0

-- the number of characters of a document, where there is one
abbrev pub document_len : Option Document → ℕ
document_len document = option_map_or (λ d. length d.text) document 0

-- a document whose text its file doesn't have
abbrev pub is_unsaved : Option Document → Bool
is_unsaved document = option_map_or (λ d. not d.saved) document false

-- a document whose text isn't committed
abbrev pub is_uncommitted : Option Document → Bool
is_uncommitted document = option_map_or (λ d. not (bytes_eq d.text d.committed)) document false

-- no live file has the path
abbrev pub no_file_at : World → List ℕ → Reason
no_file_at world path = record { stands = is_none (id_at world path); refusal = NoSuchFile }

-- the file at the path isn't open
abbrev pub not_open_at : World → List ℕ → Reason
not_open_at world path = record { stands = is_none (document_at world path); refusal = NotOpen }

-- the file at the path has a document whose text it doesn't have
abbrev pub conflict_at : World → List ℕ → Reason
conflict_at world path = record { stands = is_unsaved (document_at world path); refusal = Conflict }

-- a live file has the path
abbrev pub path_taken : World → List ℕ → Reason
path_taken world path = record { stands = is_some (id_at world path); refusal = PathTaken }

-- the path is unlawful
abbrev pub bad_path : List ℕ → Reason
bad_path path = record { stands = not (is_path path); refusal = BadPath }

-- the reasons to refuse a change, in order, but for a full history
abbrev pub reasons : World → Change → List Reason
reasons world (Create path text) =
    bad_path path
    ∷ path_taken world path
    ∷ record { stands = nat_le max_files (length world.files); refusal = FilesFull }
    ∷ []
reasons world (Write path text) = no_file_at world path ∷ conflict_at world path ∷ []
reasons world (Delete path) = no_file_at world path ∷ conflict_at world path ∷ []
reasons world (OpenDoc path) =
    no_file_at world path
    ∷ record { stands = is_some (document_at world path); refusal = AlreadyOpen }
    ∷ record { stands = nat_le max_documents (count_of is_open world); refusal = DocsFull }
    ∷ []
reasons world (Insert path at text) =
    no_file_at world path
    ∷ not_open_at world path
    ∷ record { stands = nat_lt (document_len (document_at world path)) at; refusal = BadRange (document_len (document_at world path)) }
    ∷ record { stands = nat_lt max_chars (document_len (document_at world path) + length text); refusal = TextFull (document_len (document_at world path) + length text) }
    ∷ []
reasons world (Erase path from to) =
    no_file_at world path
    ∷ not_open_at world path
    ∷ record { stands = nat_lt (document_len (document_at world path)) to || nat_lt to from; refusal = BadRange (document_len (document_at world path)) }
    ∷ []
reasons world (Commit path) = no_file_at world path ∷ not_open_at world path ∷ []
reasons world (Save path) = no_file_at world path ∷ not_open_at world path ∷ []
reasons world (CloseDoc path) =
    no_file_at world path
    ∷ not_open_at world path
    ∷ record { stands = is_unsaved (document_at world path); refusal = Unsaved }
    ∷ record { stands = is_uncommitted (document_at world path); refusal = Uncommitted }
    ∷ []
reasons world (Intake file stamp) =
    record { stands = is_none (file_of world file); refusal = NoSuchFile }
    ∷ record { stands = not (stamp == stamp_of (file_of world file)); refusal = Stale stamp (stamp_of (file_of world file)) }
    ∷ []
reasons world (Move path to) = bad_path to ∷ no_file_at world path ∷ path_taken world to ∷ []

-- the history is full: the last reason to refuse any change
abbrev pub history_full : World → Reason
history_full world = record { stands = nat_le max_entries world.entries; refusal = HistoryFull }

-- why a change is refused, if it is
abbrev pub refusal_of : World → Change → Option Refusal
refusal_of world change = first_standing (reasons world change ++ history_full world ∷ [])

-- what a change does: the file with this id becomes another, or goes, and so many stamps are drawn
pub record Put : Type 0 where
  pub id : ℕ
  pub file : Option File
  pub drawn : ℕ

-- an edit of the live file at a path
abbrev pub edit_at : World → List ℕ → ℕ → (File → Option File) → Put
edit_at world path drawn edit = record { id = unwrap_or (id_at world path) 0; file = option_and_then edit (file_at world path); drawn = drawn }

-- a file as it is made: not open and not indexed
abbrev pub new_file : List ℕ → List ℕ → ℕ → File
new_file path text stamp = record { path = path; content = text; stamp = stamp; indexed = None; document = None }

-- a file with new content at a stamp; its document, where it is open, has that text too
abbrev pub rewritten : List ℕ → ℕ → File → File
rewritten text stamp file = record { path = file.path; content = text; stamp = stamp; indexed = file.indexed; document = option_map (replaced text) file.document }

-- a file with another document or none
abbrev pub with_document : Option Document → File → File
with_document document file = record { path = file.path; content = file.content; stamp = file.stamp; indexed = file.indexed; document = document }

-- a file with its document edited
abbrev pub edited : (Document → Document) → File → File
edited edit file = with_document (option_map edit file.document) file

-- a file whose content is its document's text, at a stamp
abbrev pub saved : ℕ → File → File
saved stamp file = record {
  path = file.path;
  content = option_map_or (λ d. d.text) file.document file.content;
  stamp = stamp;
  indexed = file.indexed;
  document = option_map marked_saved file.document;
}

-- a file that counts as indexed at a stamp
abbrev pub taken_in : ℕ → File → File
taken_in stamp file = record { path = file.path; content = file.content; stamp = file.stamp; indexed = Some stamp; document = file.document }

-- a file that is no longer open, and counts as indexed at its stamp
abbrev pub closed : File → File
closed file = record { path = file.path; content = file.content; stamp = file.stamp; indexed = Some file.stamp; document = None }

-- a file with another path, at a stamp
abbrev pub moved : List ℕ → ℕ → File → File
moved to stamp file = record { path = to; content = file.content; stamp = stamp; indexed = file.indexed; document = file.document }

-- what a change does to which file
abbrev pub put_of : World → Change → Put
put_of world (Create path text) = record { id = next_id world; file = Some (new_file path text world.next_stamp); drawn = 1 }
put_of world (Write path text) = edit_at world path 1 (λ file. Some (rewritten text world.next_stamp file))
put_of world (Delete path) = edit_at world path 0 (λ file. None)
put_of world (OpenDoc path) = edit_at world path 0 (λ file. Some (with_document (Some (opened file.content)) file))
put_of world (Insert path at text) = edit_at world path 0 (λ file. Some (edited (inserted at text) file))
put_of world (Erase path from to) = edit_at world path 0 (λ file. Some (edited (erased from to) file))
put_of world (Commit path) = edit_at world path 0 (λ file. Some (edited committed file))
put_of world (Save path) = edit_at world path 1 (λ file. Some (saved world.next_stamp file))
put_of world (CloseDoc path) = edit_at world path 0 (λ file. Some (closed file))
put_of world (Intake file stamp) = record { id = file; file = option_map (taken_in stamp) (file_of world file); drawn = 0 }
put_of world (Move path to) = edit_at world path 1 (λ file. Some (moved to world.next_stamp file))
