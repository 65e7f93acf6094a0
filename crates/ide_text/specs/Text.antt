-- Texts: lists of Unicode scalar values, by code, whose one line break is U+000A.
use Rattle.std.specs.Prelude.{ℕ, ◌≡◌, ◌≤◌, Bool, false, IsTrue, ◌&&◌, List, [], ◌∷◌, ◌++◌, length, nat_le, ◌==◌, if◌then◌else◌, Result, Ok, Err}
use Rattle.std.specs.Str.{chars, is_utf8, all_scalars}
use Rattle.std.specs.Str.Lossy.{utf8_valid_len}
use Rattle.ide_text.specs.declared.text.TextRefusal.{TextRefusal}
use Rattle.ide_text.specs.declared.text.TextRefusal.TheVariants.{NotText, TooLong, OutOfMemory}

-- the most characters that a text may have
abbrev pub max_chars : ℕ
max_chars = 1048576

-- U+000A, the line break of a text
abbrev pub line_feed : ℕ
line_feed = 10

-- U+000D, which no text has
abbrev pub carriage_return : ℕ
carriage_return = 13

-- what a character gives; the flag says that a carriage return stands right before it
abbrev pub repaired_char : Bool → ℕ → List ℕ
repaired_char after_return c =
    if c == carriage_return then line_feed ∷ [] else (if after_return && c == line_feed then [] else c ∷ [])

-- the characters with CR LF and a lone CR as one line feed each; the flag says that a carriage return stands before them
abbrev pub repaired_after : Bool → List ℕ → List ℕ
repaired_after after_return [] = []
repaired_after after_return (c ∷ cs) = repaired_char after_return c ++ repaired_after (c == carriage_return) cs

-- the characters with each line break as one line feed
abbrev pub repaired : List ℕ → List ℕ
repaired cs = repaired_after false cs

-- the characters, where they are few enough for a text
abbrev pub sized_text : List ℕ → Result (List ℕ) TextRefusal
sized_text cs = if nat_le (length cs) max_chars then Ok cs else Err (TooLong (length cs))

-- the text that the bytes spell, or the first reason why they spell none
abbrev pub text_of : List ℕ → Result (List ℕ) TextRefusal
text_of bytes = if is_utf8 bytes then sized_text (repaired (chars bytes)) else Err (NotText (utf8_valid_len bytes))

-- an answer other than `OutOfMemory` is this one
abbrev pub IsRefusalOf : Result (List ℕ) TextRefusal → TextRefusal → Type 0
IsRefusalOf expected OutOfMemory = Unit {0}
IsRefusalOf expected (NotText at) = expected ≡ Err (NotText at)
IsRefusalOf expected (TooLong count) = expected ≡ Err (TooLong count)

-- no carriage return stands in the list
abbrev pub HasNoReturn : List ℕ → Type 0
HasNoReturn [] = Unit {0}
HasNoReturn (c ∷ cs) = ((c == carriage_return) ≡ false) × HasNoReturn cs

-- what a list of characters needs to be a text
pub record IsText (cs : List ℕ) : Type 0 where
  pub few : length cs ≤ max_chars
  pub scalars : IsTrue (all_scalars cs)
  pub no_return : HasNoReturn cs
