-- Names of files and folders below a folder.
use Rattle.std.specs.Prelude.{ℕ, ◌==◌, List, [], ◌∷◌, ◌++◌, codes, if◌then◌else◌, Option, Some, None}
use Rattle.std.specs.List.{filter_map}

-- what the names of all that is below a folder begin with: its own name and a slash, and nothing where its own is empty
abbrev pub front_of : List ℕ → List ℕ
front_of [] = []
front_of (b ∷ bs) = (b ∷ bs) ++ codes "/"

-- what stands in a name behind these bytes, where it begins with them
abbrev pub behind : List ℕ → List ℕ → Option (List ℕ)
behind [] name = Some name
behind (b ∷ bs) [] = None
behind (b ∷ bs) (c ∷ cs) = if b == c then behind bs cs else None

-- the names below a folder, of the files with these names
abbrev pub names_below : List ℕ → List (List ℕ) → List (List ℕ)
names_below folder names = filter_map (behind (front_of folder)) names
