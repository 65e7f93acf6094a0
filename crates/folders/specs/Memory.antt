-- What a folder in memory tells.
use Rattle.std.specs.Prelude.{ℕ, List, [], ◌∷◌, map, length, nat_le, if◌then◌else◌, Option, Some, None, vec_items, string_bytes}
use Rattle.std.specs.Option.{option_and_then, option_map}
use Rattle.std.specs.BTreeMap.{get_by_text, keys}
use Rattle.folders.specs.Told.{Found, Told, Passed, max_file_len}
use Rattle.folders.specs.Names.{names_below}
use Rattle.folders.specs.Below.{passed_of}
use Rattle.folders.specs.declared.memory_folder.MemoryFolder.{MemoryFolder}

-- these bytes, if they are few enough for a file
abbrev pub within_limit : List ℕ → Option (List ℕ)
within_limit bytes = if nat_le (length bytes) max_file_len then Some bytes else None

-- what is found below the folder with a name, where these files are below it: nothing where there is none, but for the empty name
abbrev pub found_with : List ℕ → List (List ℕ) → List Passed → Option Found
found_with (b ∷ bs) [] passed = None
found_with name files passed = Some (record { files = files; passed = passed })

-- all that it tells: below a folder are the files whose names begin with its name and a slash, and what it has passed by; a file has its
-- bytes where it's there, can be read and isn't too long
abbrev pub told_of : MemoryFolder → Told
told_of folder = record {
  below = λ name. found_with name (names_below name (map string_bytes (keys folder.files))) (map passed_of folder.passed.items);
  bytes = λ name. option_and_then within_limit (option_and_then (option_map vec_items) (get_by_text folder.files name));
}
