-- The files of a tree.
use Rattle.std.specs.Prelude.{ℕ, List, Option, Vec, vec_items}
use Rattle.std.specs.Option.{option_map}
use Rattle.std.specs.Ordering.{nat_cmp}
use Rattle.std.specs.Cmp.Lexicographic.{slice_cmp}
use Rattle.std.specs.BTreeMap.{BTreeMap, get}

-- the most bytes that a file may have
abbrev pub max_file_len : ℕ
max_file_len = 16777216

-- the bytes of the file at each path, where there is one; a path is a list of characters
abbrev pub TreeFiles : Type 0
TreeFiles = List ℕ → Option (List ℕ)

-- the files of a map
abbrev pub files_of : {Z : Type 0} → BTreeMap (List ℕ) (Vec ℕ Z) → TreeFiles
files_of map path = option_map vec_items (get (slice_cmp nat_cmp) map path)
