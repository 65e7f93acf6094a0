-- What steps need room for.
use Rattle.std.specs.Prelude.{ℕ, ◌≡◌, ◌≤◌, ◌<◌, ◌+◌, ◌-◌, ◌==◌, Bool, true, false, if◌then◌else◌, is_some, List, [], ◌∷◌, length, Option, Some, None, IsSome, IfSome}
use Rattle.vfs_core.specs.FilesView as files
use Rattle.document_buf.specs.DocsView as docs
use Rattle.overlay_index.specs.Layers as layers
use Rattle.overlay_index.specs.Parts.{Parts}
use Rattle.ide_world.specs.declared.step.DocEdit.{DocEdit}
use Rattle.ide_world.specs.declared.step.DocEdit.TheVariants.{Keep as KeepDoc, Open, Insert, Erase, Commit, MarkSaved, Replace, Close}
use Rattle.ide_world.specs.declared.step.IndexEdit.{IndexEdit}
use Rattle.ide_world.specs.declared.step.IndexEdit.TheVariants.{SetBase, SetOverlay, ToOverlay}
use Rattle.ide_world.specs.declared.step.Step.{Step}
use Rattle.ide_world.specs.RowEdits.{put_row}
use Rattle.list_laws.specs.Rows.{one_if}
use Rattle.ide_world.specs.IdSet.{IdSet, has_mark}

-- the room of a state: that of its files, its documents, its index data and its marks
pub record Room : Type 0 where
  pub files : files.FilesView
  pub docs : docs.DocsView
  pub layers : layers.LayersView
  pub marks : IdSet

-- whether an edit opens a document
abbrev pub opens : DocEdit → Bool
opens (Open doc) = true
opens edit = false

-- the data that an edit brings
abbrev pub brought : IndexEdit → Option Parts
brought (SetBase parts) = Some parts
brought (SetOverlay parts) = Some parts
brought edit = None

-- whether an edit lets what a file shows be its overlay
abbrev pub shows_on : IndexEdit → Bool
shows_on ToOverlay = true
shows_on edit = false

-- how many rows steps may make
abbrev pub rows_of : List Step → ℕ
rows_of [] = 0
rows_of (step ∷ steps) = one_if (is_some (put_row step.row)) + rows_of steps

-- how much room a document needs before an edit, if it needs so much behind it: an insert takes room and an erase gives it
-- back, and a document that is opened or put in another's place brings its own
abbrev pub room_before : DocEdit → ℕ → ℕ
room_before KeepDoc n = n
room_before (Open doc) n = 0
room_before (Insert at text) n = length text + n
room_before (Erase from to) n = n - (to - from)
room_before (Commit text) n = n
room_before MarkSaved n = n
room_before (Replace doc) n = 0
room_before Close n = 0

-- how much room the document of a file needs before a step
abbrev pub room_before_step : ℕ → Step → ℕ → ℕ
room_before_step id step n = if step.id == id then room_before step.doc n else n

-- how much room the document of a file needs before steps
abbrev pub room_needed : ℕ → List Step → ℕ
room_needed id [] = 0
room_needed id (step ∷ steps) = room_before_step id step (room_needed id steps)

-- room for what a step brings, but for rows and characters, which add up
pub record HasStepRoom (room : Room) (step : Step) : Type 0 where
  pub path : IfSome (put_row step.row) (λ row. files.HasPathRoom room.files row.path)
  pub place : opens step.doc ≡ true → 0 < step.id → docs.HasPlace room.docs step.id
  pub parts : IfSome (brought step.index) (layers.HasRoom room.layers step.id)
  pub layer : shows_on step.index ≡ true → layers.HasPlace room.layers step.id
  pub mark : has_mark room.marks step.id ≡ true

-- the same for each of the steps
abbrev pub HasEachRoom : Room → List Step → Type 0
HasEachRoom room [] = Unit {0}
HasEachRoom room (step ∷ steps) = HasStepRoom room step × HasEachRoom room steps

-- room for all that steps bring
pub record HasRoomIn (room : Room) (steps : List Step) : Type 0 where
  pub rows : files.HasRowRoom room.files (rows_of steps)
  pub each : HasEachRoom room steps
  pub chars : (id : ℕ) → IsSome (docs.document_of room.docs id) → room_needed id steps ≤ docs.room_of room.docs id

-- what had room for what a step brings still has it
pub record KeepsRoom (old new : Room) : Type 0 where
  pub paths : (path : List ℕ) → files.HasPathRoom old.files path → files.HasPathRoom new.files path
  pub places : (id : ℕ) → docs.HasPlace old.docs id → docs.HasPlace new.docs id
  pub parts : layers.KeepsRoom old.layers new.layers
  pub layers : layers.KeepsPlace old.layers new.layers
  pub marks : (id : ℕ) → has_mark old.marks id ≡ true → has_mark new.marks id ≡ true

-- the room that adds up isn't less, and the same documents are open
pub record KeepsCounts (old new : Room) : Type 0 where
  pub rows : (count : ℕ) → files.HasRowRoom old.files count → files.HasRowRoom new.files count
  pub chars : (id : ℕ) → docs.room_of old.docs id ≤ docs.room_of new.docs id
  pub documents : docs.SameDocuments old.docs new.docs
