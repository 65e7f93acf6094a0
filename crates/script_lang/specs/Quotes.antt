-- Texts in quotes, with their escapes.
use Rattle.std.specs.Prelude.{ℕ, ◌==◌, Bool, true, false, List, [], ◌∷◌, ◌++◌, length, nat_le, Option, Some, None, if◌then◌else◌, option_map}
use Rattle.std.specs.Option.{option_and_then, option_to_list}
use Rattle.ide_text.specs.Text.{repaired, max_chars}
use Rattle.script_lang.specs.declared.quoted.QuoteState.{QuoteState}
use Rattle.script_lang.specs.declared.quoted.QuoteState.TheVariants.{Outside, Inside, Escaping, Behind}

-- the character that begins and ends a text
abbrev pub quote : ℕ
quote = 34

-- the character that begins an escape
abbrev pub backslash : ℕ
backslash = 92

-- the character that a letter after a backslash stands for: `"`, `\`, and `n`, `r`, `t` for line feed, carriage return and tab
abbrev pub escape_of : ℕ → Option ℕ
escape_of c =
    if c == quote then Some quote
    else if c == backslash then Some backslash
    else if c == 110 then Some 10
    else if c == 114 then Some 13
    else if c == 116 then Some 9
    else None

-- a character read at a place: the place after it, and the character that it means if it means one; nothing where the form breaks
abbrev pub quote_step : QuoteState → ℕ → Option (QuoteState × Option ℕ)
quote_step Outside c = if c == quote then Some (Inside, None) else None
quote_step Inside c =
    if c == quote then Some (Behind, None)
    else if c == backslash then Some (Escaping, None)
    else Some (Inside, Some c)
quote_step Escaping c = option_map (λ meant. (Inside, Some meant)) (escape_of c)
quote_step Behind c = None

-- whether a field may end at a place
abbrev pub is_end : QuoteState → Bool
is_end Outside = false
is_end Inside = false
is_end Escaping = false
is_end Behind = true

-- what a field from a place on means: the characters that its characters mean, where its form goes on to its end
unfoldable pub unquoted_from : QuoteState → List ℕ → Option (List ℕ)
unquoted_from place [] = if is_end place then Some [] else None
unquoted_from place (c ∷ cs) =
    option_and_then (λ s. option_map (λ rest. option_to_list s.1 ++ rest) (unquoted_from s.0 cs)) (quote_step place c)

-- the characters as a text: line breaks are repaired first, and what is left may not be too long
abbrev pub fitting_text : List ℕ → Option (List ℕ)
fitting_text cs = if nat_le (length (repaired cs)) max_chars then Some (repaired cs) else None

-- the text that a field in quotes stands for
abbrev pub text_of_field : List ℕ → Option (List ℕ)
text_of_field field = option_and_then fitting_text (unquoted_from Outside field)
