-- Lawful paths of files.
use Rattle.std.specs.Prelude.{ℕ, Bool, not, ◌&&◌, ◌||◌, List, [], ◌∷◌, length, nat_lt, nat_le, ◌==◌, if◌then◌else◌, bytes_eq, codes}
use Rattle.std.specs.List.{list_all}

-- the most characters of a path
abbrev pub max_path : ℕ
max_path = 255

-- a character that no path has: a control character or space up to U+0020, U+007F, the quote, the backslash and the colon
abbrev pub is_barred : ℕ → Bool
is_barred c = nat_le c 32 || c == 127 || c == 34 || c == 92 || c == 58

-- puts a character onto the first of the parts
abbrev pub onto_first : ℕ → List (List ℕ) → List (List ℕ)
onto_first c [] = (c ∷ []) ∷ []
onto_first c (part ∷ parts) = (c ∷ part) ∷ parts

-- the parts between the slashes of a path
abbrev pub parts_of : List ℕ → List (List ℕ)
parts_of [] = [] ∷ []
parts_of (c ∷ cs) = if c == 47 then [] ∷ parts_of cs else onto_first c (parts_of cs)

-- a part names something: it isn't empty, `.` or `..`
abbrev pub is_part : List ℕ → Bool
is_part part = not (bytes_eq part []) && not (bytes_eq part (codes ".")) && not (bytes_eq part (codes ".."))

-- 1 to 255 characters, none of them barred, whose parts all name something
abbrev pub is_path : List ℕ → Bool
is_path path = nat_lt 0 (length path) && nat_le (length path) max_path && list_all (λ c. not (is_barred c)) path && list_all is_part (parts_of path)
