-- The numbers that stand at the beginning of an entry's text.
use Rattle.std.specs.Prelude.{ℕ, ◌+◌, ◌-◌, ◌*◌, ◌==◌, ◌&&◌, nat_le, if◌then◌else◌, Bool, List, [], ◌∷◌}

-- what follows the first space of a text
abbrev pub after_space : List ℕ → List ℕ
after_space [] = []
after_space (byte ∷ bytes) = if byte == 32 then bytes else after_space bytes

-- whether a byte is a decimal digit
abbrev pub is_digit : ℕ → Bool
is_digit byte = nat_le 48 byte && nat_le byte 57

-- the number that the digits at the beginning of a text spell, where this one came before them
abbrev pub number_from : ℕ → List ℕ → ℕ
number_from number [] = number
number_from number (byte ∷ bytes) = if is_digit byte then number_from (number * 10 + (byte - 48)) bytes else number

-- the number at the beginning of a text, 0 where there is none
abbrev pub number_at : List ℕ → ℕ
number_at text = number_from 0 text

-- the seat of an entry, which stands behind its position
abbrev pub seat_in : List ℕ → ℕ
seat_in text = number_at (after_space text)

-- the file of an intake, which stands behind position, seat, line and the word `intake`
abbrev pub file_in : List ℕ → ℕ
file_in text = number_at (after_space (after_space (after_space (after_space text))))
