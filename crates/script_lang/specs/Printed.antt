-- Scripts that are printed line by line.
use Rattle.std.specs.Prelude.{ℕ, ◌≡◌, ◌≤◌, ◌+◌, ◌==◌, ◌&&◌, not, nat_le, nat_lt, Bool, true, IsTrue, List, [], ◌∷◌, ◌++◌, length, Some, None, codes}
use Rattle.std.specs.List.{list_all}
use Rattle.ide_text.specs.Text.{max_chars}
use Rattle.script_lang.specs.Forms.{IsQuoted}
use Rattle.script_lang.specs.Grammar.{IsCommandLine, AreLines, AreContents, IsScript, Rest, HoldRest, nothing, first_comes, lane_comes, last_comes, whole}
use Rattle.script_lang.specs.Lines.{max_bytes, line_feed}
use Rattle.script_lang.specs.Parts.{Parts}
use Rattle.script_lang.specs.Quotes.{quote, backslash}
use Rattle.script_lang.specs.Reading.{may_stand, next_lane, may_end}
use Rattle.script_lang.specs.declared.command.Command.{Command}
use Rattle.script_lang.specs.declared.content.Content.{Content}
use Rattle.script_lang.specs.declared.line.Section.{Section}
use Rattle.script_lang.specs.declared.line.Section.TheVariants.{Prelude, Finally}

-- a character of ASCII, from the space on: no line feed, no carriage return
abbrev pub is_ink : ℕ → Bool
is_ink c = nat_le 32 c && nat_lt c 128

-- and neither a quote nor a backslash, so that it stands for itself between quotes
abbrev pub is_plain : ℕ → Bool
is_plain c = is_ink c && (not (c == quote) && not (c == backslash))

-- a text in quotes
abbrev pub in_quotes : List ℕ → List ℕ
in_quotes text = quote ∷ (text ++ quote ∷ [])

-- bytes spell what is to come of a script, from the line with this number on, where it stands in this section
pub record SpellRest (section : Section) (number : ℕ) (bytes : List ℕ) (rest : Rest) : Type 0 where
  pub lines : List (List ℕ)
  pub contents : List Content
  pub cut : AreLines bytes lines
  pub read : AreContents lines contents
  pub held : HoldRest section None number contents rest

-- What is printed is read back, from the last line up to the first: a text of plain characters stands for itself in quotes, nothing spells
-- nothing, a line of ink before other lines spells its command before theirs, `lane` and `finally` begin a section, and bytes that spell all
-- of a script are one
pub record IsReadBack : Type 0 where
  pub text : (text : List ℕ) → list_all is_plain text ≡ true → length text ≤ max_chars → IsQuoted (in_quotes text) text
  pub none : (section : Section) (number : ℕ) → SpellRest section number [] nothing
  pub command : (section : Section) (number : ℕ) (line bytes : List ℕ) (command : Command) (rest : Rest) → list_all is_ink line ≡ true
      → IsCommandLine line command → IsTrue (may_stand section command) → SpellRest section (number + 1) bytes rest
      → SpellRest section number (line ++ line_feed ∷ bytes) (first_comes number command rest)
  pub lane : (section lane : Section) (number : ℕ) (bytes : List ℕ) (rest : Rest) → next_lane section ≡ Some lane
      → SpellRest lane (number + 1) bytes rest → SpellRest section number (codes "lane\n" ++ bytes) (lane_comes rest)
  pub finally : (section : Section) (number : ℕ) (bytes : List ℕ) (rest : Rest) → IsTrue (may_end section)
      → SpellRest Finally (number + 1) bytes rest → SpellRest section number (codes "finally\n" ++ bytes) (last_comes rest)
  pub script : (bytes : List ℕ) (script : Parts) → length bytes ≤ max_bytes → SpellRest Prelude 1 bytes (whole script) → IsScript bytes script
