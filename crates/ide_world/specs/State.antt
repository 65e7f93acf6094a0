-- What a state keeps, and what ties its parts together.
use Rattle.std.specs.Prelude.{ℕ, ◌≡◌, ◌<◌, ◌+◌, List, [], ◌∷◌, Option, None}
use Rattle.document_buf.specs.Document.{Document}
use Rattle.vfs_core.specs.declared.row.FileRow.{FileRow}
use Rattle.vfs_core.specs.FilesView as files
use Rattle.document_buf.specs.DocsView as docs
use Rattle.overlay_index.specs.Layers as layers
use Rattle.write_history.specs.World.{World, File, file_of, is_unready, is_open, count_of}
use Rattle.ide_world.specs.declared.state.State.TheInside.{Inside}
use Rattle.ide_world.specs.IndexEdits.{Indexed}
use Rattle.ide_world.specs.Step.{joined}
use Rattle.ide_world.specs.Sound.{IsSoundWorld, HoldsIndex}
use Rattle.ide_world.specs.IdSet.{is_on}
use Rattle.ide_world.specs.Room.{Room}
use Rattle.ide_world.specs.StateView.{StateView}

-- files of their rows and their documents, where the first of them has this id
abbrev pub files_from : (ℕ → Option Document) → ℕ → List (Option FileRow) → List (Option File)
files_from document id [] = []
files_from document id (row ∷ rows) = joined row (document id) ∷ files_from document (id + 1) rows

-- the world of rows, documents and a number of entries
abbrev pub world_in : files.FilesView → docs.DocsView → ℕ → World
world_in rows documents entries = record {
  files = files_from (docs.document_of documents) 1 rows.rows;
  next_stamp = rows.next_stamp;
  entries = entries;
}

-- the world of a state
abbrev pub world_of : Inside → World
world_of inside = world_in inside.files inside.docs inside.entries

-- what contracts see of a state
abbrev pub held : Inside → StateView
held inside = record {
  world = world_of inside;
  room = record { files = inside.files; docs = inside.docs; layers = inside.layers; marks = inside.unready };
}

-- the index data that are kept for a file
abbrev pub indexed_in : layers.LayersView → ℕ → Indexed
indexed_in kept id = record { base = layers.base_of kept id; overlay = layers.overlay_of kept id }

-- the world is sound, only files with a row are open, the index data are those of the files, and the marks and counts
-- are those of the world
pub record IsKept (world : World) (room : Room) : Type 0 where
  pub sound : IsSoundWorld world
  pub drawn : 0 < world.next_stamp
  pub whole : (id : ℕ) → files.row_of room.files id ≡ None → docs.document_of room.docs id ≡ None
  pub index : (id : ℕ) → HoldsIndex (file_of world id) (indexed_in room.layers id)
  pub unready : (id : ℕ) → is_on room.marks id ≡ is_unready (file_of world id)
  pub unready_count : room.marks.count ≡ count_of is_unready world
  pub open_count : docs.open_of room.docs ≡ count_of is_open world

-- the same of a state's fields
abbrev pub IsSound : Inside → Type 0
IsSound inside = IsKept (held inside).world (held inside).room
