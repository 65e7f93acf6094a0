-- What files show, whatever their stamps and marks, and what writes and intakes make of it. Only lemmas speak of it.
use Rattle.std.specs.Prelude.{ℕ, ◌≡◌, ◌≤◌, List, [], ◌∷◌, if◌then◌else◌, bytes_eq, fold, Option, Some, None, option_map}
use Rattle.write_history.specs.declared.change.Change.{Change}
use Rattle.write_history.specs.declared.change.Change.TheVariants.{Write, Intake}
use Rattle.write_history.specs.declared.entry.Entry.{Entry}
use Rattle.write_history.specs.World.{World, File, file_of}
use Rattle.write_history.specs.Effect.{rewritten}

-- a file with the same stamp as any other, at which it is indexed
abbrev pub bare : File → File
bare file = record { path = file.path; content = file.content; stamp = 0; indexed = Some 0; document = file.document }

-- the file with an id, bare, where it is live
abbrev pub bare_at : World → ℕ → Option File
bare_at world id = option_map bare (file_of world id)

-- a file is there with the path, and isn't open
abbrev pub IsAt : List ℕ → Option File → Type 0
IsAt path None = ⊥
IsAt path (Some file) = (file.path ≡ path) × (file.document ≡ None)

-- a live file has the path, and isn't open
abbrev pub IsLive : World → List ℕ → Type 0
IsLive world path = (id : ℕ) × IsAt path (bare_at world id)

-- an entry of one write, which a lane made, or of one intake
pub data IsEdit (entry : Entry) : Type 0 where
  writes : entry.seat ≤ 2 → (path text : List ℕ) → entry.changes ≡ Write path text ∷ [] → IsEdit entry
  takes : (file stamp : ℕ) → entry.changes ≡ Intake file stamp ∷ [] → IsEdit entry

-- what such changes make of a bare file: a write of its path gives it the text
abbrev pub acted : List Change → File → File
acted (Write path text ∷ changes) file = if bytes_eq file.path path then rewritten text 0 file else file
acted changes file = file

-- what entries make of it, one after another
abbrev pub acts : List Entry → File → File
acts entries file = fold (λ (f : File) (entry : Entry). acted entry.changes f) file entries
