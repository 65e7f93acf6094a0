-- Natural lines, which line breaks part, and logical lines, of which each is one natural line or more.
use Rattle.std.specs.Prelude.{ℕ, zero, suc, ◌-◌, Bool, true, false, not, ◌==◌, if◌then◌else◌, List, [], ◌∷◌, ◌++◌, length, reverse, take}
use Rattle.std.specs.List.{prefix_len}
use Rattle.property_index.specs.Characters.{line_feed, backslash, is_white_space, begins_comment}

-- a character of a text, with its offset there
pub record Placed : Type 0 where
  pub code : ℕ
  pub at : ℕ

-- a part of a line
abbrev pub Line : Type 0
Line = List Placed

-- the characters of what is left of a text from an offset on
abbrev pub placed_from : ℕ → List ℕ → Line
placed_from at [] = []
placed_from at (c ∷ cs) = record { code = c; at = at } ∷ placed_from (suc at) cs

-- natural lines with a character put in front of the first
abbrev pub in_front : Placed → List Line → List Line
in_front c [] = (c ∷ []) ∷ []
in_front c (line ∷ lines) = (c ∷ line) ∷ lines

-- the natural lines, which line breaks part; behind the last line break stands none that is empty
abbrev pub natural_lines : Line → List Line
natural_lines [] = []
natural_lines (c ∷ cs) = if c.code == line_feed then [] ∷ natural_lines cs else in_front c (natural_lines cs)

-- a line without its leading white space
abbrev pub trimmed : Line → Line
trimmed [] = []
trimmed (c ∷ cs) = if is_white_space c.code then trimmed cs else c ∷ cs

-- a line without its last character
abbrev pub without_last : Line → Line
without_last line = take (length line - 1) line

-- whether a number is odd
abbrev pub is_odd : ℕ → Bool
is_odd zero = false
is_odd (suc n) = not (is_odd n)

-- how many backslashes end a line
abbrev pub last_backslashes : Line → ℕ
last_backslashes line = prefix_len (λ c. c.code == backslash) (reverse line)

-- whether a natural line goes on in the next one: it ends in an odd number of backslashes
abbrev pub goes_on : Line → Bool
goes_on line = is_odd (last_backslashes line)

-- a line without its leading white space is blank or a comment
abbrev pub is_blank_or_comment : Line → Bool
is_blank_or_comment [] = true
is_blank_or_comment (c ∷ cs) = begins_comment c.code

-- A logical line, and the logical lines behind it, where it is what a natural line has without its leading white space.
-- Where that goes on, it is without its last backslash, and what comes behind it is given first; else the other lines are.
abbrev pub joined : Line → Line × List Line → List Line → Line × List Line
joined line onward others = if goes_on line then (without_last line ++ onward.0, onward.1) else (line, others)

-- a logical line and those behind it
abbrev pub listed : Line × List Line → List Line
listed lines = lines.0 ∷ lines.1

unfoldable mutual
  -- The logical lines of natural ones. Blank lines and comments give none, also where a comment ends in a backslash.
  pub logical_lines : List Line → List Line
  logical_lines [] = []
  logical_lines (line ∷ lines) =
      if is_blank_or_comment (trimmed line) then logical_lines lines
      else listed (joined (trimmed line) (continued lines) (logical_lines lines))

  -- What a logical line that goes on has in these natural lines, and the logical lines behind it. At the end it just ends.
  pub continued : List Line → Line × List Line
  continued [] = ([], [])
  continued (line ∷ lines) = joined (trimmed line) (continued lines) (logical_lines lines)
