-- The characters of a text by how they lie in memory.
use Rattle.std.specs.Prelude.{ℕ, List}
use Rattle.std.specs.Str.{IsAscii}
use Rattle.std.specs.String.{string_bytes}
use Rattle.ide_text.specs.declared.chars.Chars.{Chars}
use Rattle.ide_text.specs.declared.chars.Chars.TheVariants.{Ascii, Any}

-- their codes, which are the bytes where all of them are ASCII
abbrev pub chars_of : Chars → List ℕ
chars_of (Ascii text) = string_bytes text
chars_of (Any chars) = chars.items

-- what is kept as ASCII is ASCII
abbrev pub IsKept : Chars → Type 0
IsKept (Ascii text) = IsAscii (string_bytes text)
IsKept (Any chars) = Unit {0}
