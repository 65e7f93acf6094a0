-- Numbers as words spell them.
use Rattle.std.specs.Prelude.{ℕ, ◌&&◌, List, Option, Some, None, if◌then◌else◌, nat_le, option_and_then, decimal}
use Rattle.std.specs.Str.{bytes_eq}
use Rattle.std.specs.Str.Parse.{digits_value}

-- the highest number that is read
abbrev pub max_number : ℕ
max_number = 4294967295

-- a number, where the text is its decimal digits and it isn't too great
abbrev pub number_if : ℕ → List ℕ → Option ℕ
number_if number text = if bytes_eq text (decimal number) then (if nat_le number max_number then Some number else None) else None

-- the number whose decimal digits the text is: no sign and no zero stands before them
unfoldable pub number_of : List ℕ → Option ℕ
number_of text = number_if (digits_value 10 text) text

-- a number, where it lies within bounds
abbrev pub if_between : ℕ → ℕ → ℕ → Option ℕ
if_between least most number = if nat_le least number && nat_le number most then Some number else None

-- the number that a text spells, where it lies within bounds
abbrev pub number_between : ℕ → ℕ → List ℕ → Option ℕ
number_between least most text = option_and_then (if_between least most) (number_of text)
