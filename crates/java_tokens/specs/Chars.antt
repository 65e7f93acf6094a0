-- The characters that the lexical grammar tells apart (Java Language Specification, chapter 3).
use Rattle.std.specs.Prelude.{ℕ, Bool, true, false, not, ◌&&◌, ◌||◌, ◌==◌, List, [], ◌∷◌}
use Rattle.unicode_ident.specs.Ident.{is_xid_start, is_xid_continue}
-- U+000A, the one line break of a text
pub use Rattle.ide_text.specs.Text.{line_feed}

-- U+0009, the tab
abbrev pub tab : ℕ
tab = 9

-- U+000C, the form feed
abbrev pub form_feed : ℕ
form_feed = 12

-- U+0020, the space
abbrev pub space : ℕ
space = 32

-- U+0022, which begins and ends strings
abbrev pub double_quote : ℕ
double_quote = 34

-- U+0024, a letter of Java
abbrev pub dollar : ℕ
dollar = 36

-- U+0027, which begins and ends characters
abbrev pub single_quote : ℕ
single_quote = 39

-- U+002A, of the marks of comments
abbrev pub asterisk : ℕ
asterisk = 42

-- U+002E, which may stand in numbers
abbrev pub dot : ℕ
dot = 46

-- U+002F, of the marks of comments
abbrev pub slash : ℕ
slash = 47

-- U+005C, which begins an escape
abbrev pub backslash : ℕ
backslash = 92

-- U+005F, a letter of Java
abbrev pub underscore : ℕ
underscore = 95

-- WhiteSpace and LineTerminator; a text has no other line break than a line feed
abbrev pub is_white_space : ℕ → Bool
is_white_space c = c == space || c == tab || c == form_feed || c == line_feed

-- any character but this one
abbrev pub is_other : ℕ → ℕ → Bool
is_other mark c = not (c == mark)

-- InputCharacter: what may stand in a line
abbrev pub is_in_line : ℕ → Bool
is_in_line c = not (c == line_feed)

-- what may begin a word, in place of JavaLetter: XID_Start, `_`, `$`
abbrev pub begins_word : ℕ → Bool
begins_word c = is_xid_start c || c == underscore || c == dollar

-- what may go on in a word, in place of JavaLetterOrDigit: XID_Continue, `$`
abbrev pub continues_word : ℕ → Bool
continues_word c = is_xid_continue c || c == dollar

-- what may go on in a number, which is cut without a grammar of its own
abbrev pub continues_number : ℕ → Bool
continues_number c = continues_word c || c == dot

-- the characters begin with this mark
abbrev pub begins_with : List ℕ → List ℕ → Bool
begins_with [] cs = true
begins_with (m ∷ mark) [] = false
begins_with (m ∷ mark) (c ∷ cs) = c == m && begins_with mark cs

-- the characters have a first one, which passes the test
abbrev pub first_passes : (ℕ → Bool) → List ℕ → Bool
first_passes test [] = false
first_passes test (c ∷ cs) = test c
