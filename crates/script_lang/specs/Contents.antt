-- What a line is, from its bytes.
use Rattle.std.specs.Prelude.{ℕ, List, [], ◌∷◌, Option, Some, None, if◌then◌else◌, option_map, codes}
use Rattle.std.specs.Str.{chars, is_utf8}
use Rattle.script_lang.specs.Lines.{without_return, is_passed_by}
use Rattle.script_lang.specs.Fields.{parts_at_space}
use Rattle.script_lang.specs.Readers.{look_up}
use Rattle.script_lang.specs.Commands.{lone_query, command_with}
use Rattle.script_lang.specs.declared.command.Command.TheVariants.{Settle, Ask}
use Rattle.script_lang.specs.declared.content.Content.{Content}
use Rattle.script_lang.specs.declared.content.Content.TheVariants.{PassedBy, Holds, Lane, Finally, Group, End, Bad}

-- what the words are that stand alone on their lines, but for questions
abbrev pub lone_contents : List (List ℕ × Option Content)
lone_contents =
    (codes "settle", Some (Holds Settle)) ∷ (codes "lane", Some Lane) ∷ (codes "finally", Some Finally) ∷ (codes "group", Some Group)
    ∷ (codes "end", Some End) ∷ []

-- what a line of one word is
abbrev pub lone_content : List ℕ → Option Content
lone_content word = look_up lone_contents word (option_map (λ query. Holds (Ask query)) (lone_query word))

-- what a line is, or that it is bad where it is nothing
abbrev pub or_bad : Option Content → Content
or_bad None = Bad
or_bad (Some content) = content

-- what a line is, from the line and its parts at the first space
abbrev pub content_of_parts : List ℕ → Option (List ℕ × List ℕ) → Content
content_of_parts line None = or_bad (lone_content line)
content_of_parts line (Some p) = or_bad (option_map Holds (command_with p.0 p.1))

-- what a line with these characters is
unfoldable pub content_of_text : List ℕ → Content
content_of_text text = content_of_parts text (parts_at_space text)

-- what a line is, its carriage return dropped
abbrev pub content_of_bytes : List ℕ → Content
content_of_bytes line =
    if is_passed_by line then PassedBy
    else if is_utf8 line then content_of_text (chars line)
    else Bad

-- what a line is
unfoldable pub content_of : List ℕ → Content
content_of line = content_of_bytes (without_return line)
