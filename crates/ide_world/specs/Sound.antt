-- What always holds of the world of a state.
use Rattle.std.specs.Prelude.{ℕ, ◌≡◌, ◌<◌, ◌≤◌, ◌+◌, ◌*◌, true, length, Option, Some, None, option_map, IfSome}
use Rattle.dumb_mode.specs.declared.kind.FileKind.{FileKind}
use Rattle.dumb_mode.specs.Filter.{kind_of}
use Rattle.write_history.specs.World.{World, File, file_of}
use Rattle.write_history.specs.Effect.{max_files, max_entries}
use Rattle.overlay_index.specs.Parts.{no_parts, parts_of}
use Rattle.ide_world.specs.IndexEdits.{Indexed}

-- what holds of a live file, where this stamp is drawn next
pub record IsSoundLive (next : ℕ) (file : File) : Type 0 where
  pub stamp : file.stamp < next
  pub indexed : IfSome file.indexed (λ stamp. stamp < next)
  pub saved : IfSome file.document (λ d. d.saved ≡ true → d.text ≡ file.content)

-- the same of a file, where it is live
abbrev pub IsSoundFile : ℕ → Option File → Type 0
IsSoundFile next file = IfSome file (IsSoundLive next)

-- each file is sound, and live files have different paths
pub record AreSoundFiles (world : World) : Type 0 where
  pub sound : (id : ℕ) → IsSoundFile world.next_stamp (file_of world id)
  pub apart : (a b : ℕ) (f g : File) → file_of world a ≡ Some f → file_of world b ≡ Some g → f.path ≡ g.path → a ≡ b

-- the same, and the counters are within their limits
pub record IsSoundWorld (world : World) : Type 0 where
  pub files : AreSoundFiles world
  pub made : length world.files ≤ max_files
  pub stamps : world.next_stamp ≤ 64 * world.entries + 1
  pub entries : world.entries ≤ max_entries

-- what the tables hold of a live file: of one of no kind nothing; of one of a kind the rows of its committed text as overlay
-- where it is open, else no overlay, and as base the rows of its content where it isn't open and is indexed at its stamp. Of any
-- other base nothing is said
abbrev pub HoldsLive : Option FileKind → File → Indexed → Type 0
HoldsLive None file held = (held.base ≡ no_parts) × (held.overlay ≡ None)
HoldsLive (Some kind) file held =
    (held.overlay ≡ option_map (λ d. parts_of kind d.committed) file.document)
    × (file.document ≡ None → file.indexed ≡ Some file.stamp → held.base ≡ parts_of kind file.content)

-- what the tables hold of a file
abbrev pub HoldsIndex : Option File → Indexed → Type 0
HoldsIndex None held = (held.base ≡ no_parts) × (held.overlay ≡ None)
HoldsIndex (Some file) held = HoldsLive (kind_of file.path) file held
