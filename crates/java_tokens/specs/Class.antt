-- The classes of characters by which the code names the tests of `Chars`.
use Rattle.std.specs.Prelude.{ℕ, Bool, not, ◌&&◌, ◌||◌, ◌==◌}
use Rattle.std.specs.Char.{is_ascii, is_ascii_alphanumeric}
use Rattle.java_tokens.specs.declared.chars.Class.{Class}
use Rattle.java_tokens.specs.declared.chars.Class.TheVariants.{WhiteSpace, Word, Number}
use Rattle.java_tokens.specs.Chars.{is_white_space, continues_word, continues_number, underscore, dollar}

-- the test of a class
abbrev pub is_in : Class → ℕ → Bool
is_in WhiteSpace = is_white_space
is_in Word = continues_word
is_in Number = continues_number

-- what of ASCII may go on in a word
abbrev pub is_ascii_word : ℕ → Bool
is_ascii_word c = is_ascii c && ((is_ascii_alphanumeric c || c == underscore) || c == dollar)

-- what no word of ASCII goes on with
abbrev pub is_no_ascii_word : ℕ → Bool
is_no_ascii_word c = not (is_ascii_word c)
