-- What is left of a text from an offset on, and the logical line that goes on there.
use Rattle.std.specs.Prelude.{ℕ, Bool, true, false, ◌&&◌, ◌==◌, if◌then◌else◌, List, [], ◌∷◌, drop}
use Rattle.property_index.specs.Characters.{line_feed, backslash}
use Rattle.property_index.specs.Lines.{Line, placed_from, natural_lines, joined, logical_lines, continued}

-- the characters of a text from an offset on, each with its offset
abbrev pub left_of : List ℕ → ℕ → Line
left_of text at = placed_from at (drop at text)

-- what is left behind the next line break
abbrev pub past_line : Line → Line
past_line [] = []
past_line (c ∷ cs) = if c.code == line_feed then cs else past_line cs

-- the logical lines of what is left, where it begins with a line
unfoldable pub lines_left : Line → List Line
lines_left left = logical_lines (natural_lines left)

-- what a logical line has in these natural lines, all of the first, and the logical lines behind it
abbrev pub going_on : List Line → Line × List Line
going_on [] = ([], [])
going_on (line ∷ lines) = joined line (continued lines) (logical_lines lines)

-- what a logical line has in what is left, which begins inside a natural line of it, and the logical lines behind it
unfoldable pub inside_from : Line → Line × List Line
inside_from left = going_on (natural_lines left)

-- how many characters a character begins that stand together in a logical line: a backslash takes the one behind it
abbrev pub width_at : ℕ → ℕ
width_at c = if c == backslash then 2 else 1

-- a natural line ends here
abbrev pub is_at_end : Line → Bool
is_at_end [] = true
is_at_end (c ∷ cs) = c.code == line_feed

-- a backslash stands here that ends its natural line
abbrev pub is_join : Line → Bool
is_join [] = false
is_join (c ∷ cs) = c.code == backslash && is_at_end cs
