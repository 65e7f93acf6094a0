-- Lists that begin with one another.
use Rattle.std.specs.Prelude.{◌≡◌, if◌then◌else◌, nat_lt, List, ◌++◌, length}

-- `whole` is `front`, and then more or nothing
abbrev pub IsPrefix : {A : Type 0} → List A → List A → Type 0
IsPrefix {A} front whole = (more : List A) × (whole ≡ front ++ more)

-- the longer of two lists, the first where they are equally long
abbrev pub longer : {A : Type 0} → List A → List A → List A
longer xs ys = if nat_lt (length xs) (length ys) then ys else xs
