-- What a store keeps of a world: the texts of its indexed files.
use Rattle.std.specs.Prelude.{ℕ, Bool, false, List, [], ◌∷◌, Option, Some, None, ◌==◌, option_map, if◌then◌else◌}
use Rattle.std.specs.Option.{option_map_or}
use Rattle.dumb_mode.specs.Filter.{kind_of}
use Rattle.write_history.specs.World.{World, File}
use Rattle.index_store.specs.Data.{StoreEntry}
use Rattle.index_store.specs.Entries.{with_entry}

-- whether a live file is indexed at its present stamp
abbrev pub is_indexed : File → Bool
is_indexed file = option_map_or (λ stamp. stamp == file.stamp) file.indexed false

-- what is kept of a live file: its content with its kind, where it has one and is indexed at its present stamp
abbrev pub entry_of : File → Option StoreEntry
entry_of file = if is_indexed file then option_map (λ kind. record { text = file.content; kind = kind }) (kind_of file.path) else None

-- entries with what is kept of a file, where it is live; what is there already stays as it is
abbrev pub with_file : Option File → List StoreEntry → List StoreEntry
with_file None es = es
with_file (Some file) es = option_map_or (λ e. with_entry e es) (entry_of file) es

-- entries with what is kept of files
abbrev pub with_files : List (Option File) → List StoreEntry → List StoreEntry
with_files [] es = es
with_files (file ∷ files) es = with_files files (with_file file es)

-- the entries of a world: one for each text and kind that an indexed file of a kind has
abbrev pub entries_of : World → List StoreEntry
entries_of world = with_files world.files []
