-- The fields of a line.
use Rattle.std.specs.Prelude.{ℕ, ◌==◌, ◌&&◌, ◌||◌, not, Bool, false, length, List, [], ◌∷◌, Option, Some, None, if◌then◌else◌, option_map, bytes_eq, nat_le}
use Rattle.std.specs.Option.{option_and_then, option_zip}
use Rattle.std.specs.Fmt.{decimal}
use Rattle.std.specs.Str.Parse.{digits_value}

-- the character that parts the fields of a line
abbrev pub space : ℕ
space = 32

-- the greatest number that a field may spell
abbrev pub max_number : ℕ
max_number = 4294967295

-- a character put before the first of two parts
abbrev pub before_first_part : ℕ → List ℕ × List ℕ → List ℕ × List ℕ
before_first_part c (front, back) = (c ∷ front, back)

-- the characters before the first space and those after it, where there is a space
abbrev pub parts_at_space : List ℕ → Option (List ℕ × List ℕ)
parts_at_space [] = None
parts_at_space (c ∷ cs) = if c == space then Some ([], cs) else option_map (before_first_part c) (parts_at_space cs)

-- what two readers read before the first space and behind it
abbrev pub two_fields : {A B : Type 0} → (List ℕ → Option A) → (List ℕ → Option B) → List ℕ → Option (A × B)
two_fields first rest fields = option_and_then (λ p. option_zip (first p.0) (rest p.1)) (parts_at_space fields)

-- a field that isn't empty
abbrev pub filled : List ℕ → Option (List ℕ)
filled [] = None
filled (c ∷ cs) = Some (c ∷ cs)

-- the path that a field is, by its parts: it has none
abbrev pub path_without_parts : Option (List ℕ × List ℕ) → List ℕ → Option (List ℕ)
path_without_parts None field = filled field
path_without_parts (Some parts) field = None

-- the path that a field is: at least one character, and no space
abbrev pub path_of : List ℕ → Option (List ℕ)
path_of field = path_without_parts (parts_at_space field) field

-- a number, where the field is its digits and it isn't too great
abbrev pub number_if : ℕ → List ℕ → Option ℕ
number_if n field = if bytes_eq field (decimal n) then (if nat_le n max_number then Some n else None) else None

-- the number whose decimal digits the field is
unfoldable pub number_of : List ℕ → Option ℕ
number_of field = number_if (digits_value 10 field) field

-- whether there are bytes, and they begin neither with a plus sign nor with a zero before other bytes
abbrev pub is_plain : List ℕ → Bool
is_plain [] = false
is_plain (b ∷ bs) = not (b == 43) && (not (b == 48) || (length bs == 0))
