-- The command on a line, from its word and its fields.
use Rattle.std.specs.Prelude.{ℕ, List, [], ◌∷◌, ◌++◌, Option, Some, None, if◌then◌else◌, option_map, codes, ◌&&◌, nat_le}
use Rattle.std.specs.Option.{option_and_then}
use Rattle.queries.specs.declared.query.Query.{Query}
use Rattle.queries.specs.declared.query.Query.TheVariants as query
use Rattle.write_history.specs.declared.change.Change.{Change}
use Rattle.script_lang.specs.Fields.{parts_at_space, two_fields, number_of}
use Rattle.script_lang.specs.Readers.{look_up, rows_of}
use Rattle.script_lang.specs.Tables.{query_forms, load_forms, change_forms}
use Rattle.script_lang.specs.declared.command.Command.{Command}
use Rattle.script_lang.specs.declared.command.Command.TheVariants as command

-- the most attempts of a soft read
abbrev pub max_attempts : ℕ
max_attempts = 1000

-- the questions of one word
abbrev pub lone_queries : List (List ℕ × Option Query)
lone_queries = (codes "status", Some query.Status) ∷ []

-- the question of one word
abbrev pub lone_query : List ℕ → Option Query
lone_query word = look_up lone_queries word None

-- the question of a word and of what stands behind the space after it
abbrev pub query_with : List ℕ → List ℕ → Option Query
query_with word rest = look_up (rows_of query_forms rest) word None

-- a line's question, from the line and its parts at the first space
abbrev pub query_of_parts : List ℕ → Option (List ℕ × List ℕ) → Option Query
query_of_parts line None = lone_query line
query_of_parts line (Some p) = query_with p.0 p.1

-- the question of a line's characters, where the line has one of the forms
unfoldable pub query_of : List ℕ → Option Query
query_of line = query_of_parts line (parts_at_space line)

-- the number of attempts that a field spells: 1 to 1000
abbrev pub attempts_of : List ℕ → Option ℕ
attempts_of field = option_and_then (λ n. if nat_le 1 n && nat_le n max_attempts then Some n else None) (number_of field)

-- the soft read of the two fields behind its word
abbrev pub soft_command : List ℕ → Option Command
soft_command fields = option_map (λ p. command.Soft p.0 p.1) (two_fields attempts_of query_of fields)

-- what a load and a soft read make of the fields behind their words
abbrev pub request_rows : List ℕ → List (List ℕ × Option Command)
request_rows rest = rows_of load_forms rest ++ (codes "soft", soft_command rest) ∷ []

-- a load or a soft read, or else a question
abbrev pub request_with : List ℕ → List ℕ → Option Command
request_with word rest = look_up (request_rows rest) word (option_map command.Ask (query_with word rest))

-- the change of a word and of what stands behind the space after it
abbrev pub change_with : List ℕ → List ℕ → Option Change
change_with word rest = look_up (rows_of change_forms rest) word None

-- a change, or else another command
abbrev pub change_or : Option Change → Option Command → Option Command
change_or (Some change) other = Some (command.Change change)
change_or None other = other

-- the command of a word and of what stands behind the space after it, where they have one of the forms
abbrev pub command_with : List ℕ → List ℕ → Option Command
command_with word rest = change_or (change_with word rest) (request_with word rest)
