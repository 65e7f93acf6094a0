-- The world: the files that were ever made, with their documents, and the counters.
use Rattle.std.specs.Prelude.{ℕ, suc, ◌+◌, if◌then◌else◌, Bool, false, List, [], ◌∷◌, filter, position, length, bytes_eq, Option, is_some, option_map}
use Rattle.std.specs.Option.{option_map_or, option_and_then}
use Rattle.list_laws.specs.Rows.{row_in}
use Rattle.document_buf.specs.Document.{Document}
use Rattle.dumb_mode.specs.Filter.{passes_filter}
use Rattle.dumb_mode.specs.Unready.{is_unready_mark}
use Rattle.dumb_mode.specs.declared.mark.Mark.{Mark}

-- a live file: its path, content and stamp, the stamp at which it was indexed last, and its document where it is open
pub record File : Type 0 where
  pub path : List ℕ
  pub content : List ℕ
  pub stamp : ℕ
  pub indexed : Option ℕ
  pub document : Option Document

-- the files of a workspace, and its counters
pub record World : Type 0 where
  -- each file that was ever made: the one with the id n at the place n - 1, and of a deleted one its place alone
  pub files : List (Option File)
  -- the stamp that is drawn next
  pub next_stamp : ℕ
  -- how many entries were accepted
  pub entries : ℕ

-- no file, and the first stamp is 1
abbrev pub empty_world : World
empty_world = record { files = []; next_stamp = 1; entries = 0 }

-- the id that the next file gets
abbrev pub next_id : World → ℕ
next_id world = length world.files + 1

-- the file with an id, where it is live; no file has the id 0
abbrev pub file_of : World → ℕ → Option File
file_of world id = row_in world.files id

-- whether a file is live and has this path
abbrev pub has_path : List ℕ → Option File → Bool
has_path path file = option_map_or (λ f. bytes_eq f.path path) file false

-- the id of the live file at a path
abbrev pub id_at : World → List ℕ → Option ℕ
id_at world path = option_map suc (position (has_path path) world.files)

-- the live file at a path
abbrev pub file_at : World → List ℕ → Option File
file_at world path = option_and_then (file_of world) (id_at world path)

-- the document of the live file at a path, where it is open
abbrev pub document_at : World → List ℕ → Option Document
document_at world path = option_and_then (λ file. file.document) (file_at world path)

-- what a search sees of a file: the committed text where it is open, else its content
abbrev pub shown_text : File → List ℕ
shown_text file = option_map_or (λ document. document.committed) file.document file.content

-- what decides whether a file is unready
abbrev pub mark_of : ℕ → File → Mark
mark_of id file = record { file = id; java = passes_filter file.path; docs_open = is_some file.document; present = file.stamp; indexed = file.indexed }

-- whether a file is live, passes the filter, isn't open and isn't indexed at its stamp
abbrev pub is_unready : Option File → Bool
is_unready file = option_map_or (λ f. is_unready_mark (mark_of 0 f)) file false

-- the ids of the files that pass a test, where the first of the files has this id
abbrev pub ids_from : (Option File → Bool) → ℕ → List (Option File) → List ℕ
ids_from test id [] = []
ids_from test id (file ∷ files) = if test file then id ∷ ids_from test (id + 1) files else ids_from test (id + 1) files

-- the ids of the unready files, which rise
abbrev pub unready_ids : World → List ℕ
unready_ids world = ids_from is_unready 1 world.files

-- the unready file with the lowest id
abbrev pub lowest_unready : World → Option ℕ
lowest_unready world = option_map suc (position is_unready world.files)

-- whether a file is live and open
abbrev pub is_open : Option File → Bool
is_open file = option_map_or (λ f. is_some f.document) file false

-- how many of the files pass a test
abbrev pub count_of : (Option File → Bool) → World → ℕ
count_of test world = length (filter test world.files)
