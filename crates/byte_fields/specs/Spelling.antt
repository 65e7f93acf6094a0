-- The bytes of a field.
use Rattle.std.specs.Prelude.{ℕ, List, ◌++◌, length, encode_utf8_all}
use Rattle.std.specs.List.{flat_map}
use Rattle.std.specs.Int.{w32, to_be_bytes}

-- a number: four bytes, the greatest first
abbrev pub number : ℕ → List ℕ
number n = to_be_bytes w32 n

-- a name: the number of its bytes of UTF-8, and these bytes
abbrev pub name : List ℕ → List ℕ
name characters = number (length (encode_utf8_all characters)) ++ encode_utf8_all characters

-- so many of a kind, behind their number
abbrev pub counted : {A : Type 0} → (A → List ℕ) → List A → List ℕ
counted spell xs = number (length xs) ++ flat_map spell xs
