-- The lines of a script's bytes.
use Rattle.std.specs.Prelude.{ℕ, ◌-◌, ◌==◌, Bool, true, false, List, [], ◌∷◌, length, take, slice_get, Option, Some, None, if◌then◌else◌}

-- the most bytes that a script may have
abbrev pub max_bytes : ℕ
max_bytes = 16777216

-- U+000A ends a line
abbrev pub line_feed : ℕ
line_feed = 10

-- U+000D may stand before a line's end
abbrev pub carriage_return : ℕ
carriage_return = 13

-- `#` begins a line that is passed by
abbrev pub number_sign : ℕ
number_sign = 35

-- the lines, with this byte before the first of them
abbrev pub before_lines : ℕ → List (List ℕ) → List (List ℕ)
before_lines b [] = (b ∷ []) ∷ []
before_lines b (line ∷ lines) = (b ∷ line) ∷ lines

-- the bytes cut at each line feed; what stands after the last one is a line where it isn't empty
unfoldable pub lines_of : List ℕ → List (List ℕ)
lines_of [] = []
lines_of (b ∷ bs) = if b == line_feed then [] ∷ lines_of bs else before_lines b (lines_of bs)

-- whether a byte is there and is a carriage return
abbrev pub is_return : Option ℕ → Bool
is_return None = false
is_return (Some b) = b == carriage_return

-- a line with one carriage return at its end dropped
abbrev pub without_return : List ℕ → List ℕ
without_return line = if is_return (slice_get line (length line - 1)) then take (length line - 1) line else line

-- whether a line, its carriage return dropped, is empty or begins with `#`
abbrev pub is_passed_by : List ℕ → Bool
is_passed_by [] = true
is_passed_by (b ∷ bs) = b == number_sign
