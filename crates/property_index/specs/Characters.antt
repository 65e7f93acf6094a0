-- The characters that the format of `.properties` files tells apart.
use Rattle.std.specs.Prelude.{ℕ, Bool, ◌||◌, ◌==◌, if◌then◌else◌}
-- U+000A, the one line break of a text
pub use Rattle.ide_text.specs.Text.{line_feed, carriage_return}

-- U+0009, the tab
abbrev pub tab : ℕ
tab = 9

-- U+000C, the form feed
abbrev pub form_feed : ℕ
form_feed = 12

-- U+0020, the space
abbrev pub space : ℕ
space = 32

-- U+0021, which begins a comment
abbrev pub exclamation_mark : ℕ
exclamation_mark = 33

-- U+0023, which begins a comment
abbrev pub number_sign : ℕ
number_sign = 35

-- U+003A, which ends a key
abbrev pub colon : ℕ
colon = 58

-- U+003D, which ends a key
abbrev pub equals_sign : ℕ
equals_sign = 61

-- U+005C, which takes the character behind it
abbrev pub backslash : ℕ
backslash = 92

-- white space; a line break is none
abbrev pub is_white_space : ℕ → Bool
is_white_space c = c == space || c == tab || c == form_feed

-- white space or a line break
abbrev pub is_blank : ℕ → Bool
is_blank c = c == line_feed || is_white_space c

-- what begins a comment
abbrev pub begins_comment : ℕ → Bool
begins_comment c = c == number_sign || c == exclamation_mark

-- what ends a key, unless a backslash took it
abbrev pub ends_key : ℕ → Bool
ends_key c = c == equals_sign || c == colon || is_white_space c

-- what ends a key at the latest: the line's end does too
abbrev pub stops_key : ℕ → Bool
stops_key c = c == line_feed || ends_key c

-- what a character stands for that a backslash took: `t`, `n`, `r`, `f` for tab, line break, CR, form feed, any other for itself
abbrev pub meant_by : ℕ → ℕ
meant_by c =
    if c == 116 then tab
    else if c == 110 then line_feed
    else if c == 114 then carriage_return
    else if c == 102 then form_feed
    else c
