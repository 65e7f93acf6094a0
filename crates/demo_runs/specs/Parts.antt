-- The script that a demo's bytes spell, from the seed and the numbers of files and edits.
use Rattle.std.specs.Prelude.{ℕ, ◌+◌, List, [], ◌∷◌, length, filter, codes}
use Rattle.demo.specs.declared.command.Command.{Command}
use Rattle.demo.specs.declared.command.Verb.{Verb}
use Rattle.demo.specs.declared.command.Verb.TheVariants.{Create, Write}
use Rattle.demo.specs.Line.{path_of, class_of}
use Rattle.demo.specs.Commands.{creates, is_of_first_lane, is_of_second_lane}
use Rattle.demo.specs.Script.{edits_of}
use Rattle.write_history.specs.declared.change.Change.{Change}
use Rattle.write_history.specs.declared.change.Change.TheVariants as change
use Rattle.queries.specs.declared.query.Query.TheVariants as query
use Rattle.script_lang.specs.declared.command.Command.TheVariants as script
use Rattle.script_lang.specs.declared.line.Line.{Line}
use Rattle.script_lang.specs.Parts.{Parts}

-- what a verb does with a path and a text
abbrev pub change_by : Verb → List ℕ → List ℕ → Change
change_by Create path text = change.Create path text
change_by Write path text = change.Write path text

-- the change that a command of the demo asks for: the file's path gets the text of the class
abbrev pub change_of : Command → Change
change_of command = change_by command.verb (path_of command.file) (class_of command)

-- the line of a command at a number
abbrev pub line_at : ℕ → Command → Line
line_at number command = record { number = number; command = script.Change (change_of command) }

-- the lines of commands, the first of which has this number
abbrev pub lines_from : ℕ → List Command → List Line
lines_from number [] = []
lines_from number (command ∷ others) = line_at number command ∷ lines_from (number + 1) others

-- the lines of the last section, the first of which has this number
abbrev pub last_from : ℕ → List Line
last_from number =
    record { number = number; command = script.Settle }
    ∷ record { number = number + 1; command = script.Ask query.Status }
    ∷ record { number = number + 2; command = script.Ask (query.Supers (codes "G0")) }
    ∷ record { number = number + 3; command = script.Ask (query.Supers (codes "G1")) }
    ∷ []

-- the edits of the first lane
abbrev pub first_lane : ℕ → ℕ → ℕ → List Command
first_lane seed files edited = filter is_of_first_lane (edits_of seed files edited)

-- the edits of the second lane
abbrev pub second_lane : ℕ → ℕ → ℕ → List Command
second_lane seed files edited = filter is_of_second_lane (edits_of seed files edited)

-- the number of the line on which the first lane begins: it stands behind the creations
abbrev pub first_lane_begins : ℕ → ℕ → ℕ
first_lane_begins seed files = 1 + length (creates seed files)

-- the number of the line on which the second lane begins
abbrev pub second_lane_begins : ℕ → ℕ → ℕ → ℕ
second_lane_begins seed files edited = first_lane_begins seed files + 1 + length (first_lane seed files edited)

-- the number of the line on which the last section begins
abbrev pub last_begins : ℕ → ℕ → ℕ → ℕ
last_begins seed files edited = second_lane_begins seed files edited + 1 + length (second_lane seed files edited)

-- the script of a demo: the creations, two lanes with the edits of files with odd and with even numbers, and the last section
abbrev pub demo_parts : ℕ → ℕ → ℕ → Parts
demo_parts seed files edited =
    record {
      prelude = lines_from 1 (creates seed files);
      lanes = lines_from (first_lane_begins seed files + 1) (first_lane seed files edited)
          ∷ lines_from (second_lane_begins seed files edited + 1) (second_lane seed files edited)
          ∷ [];
      last = last_from (last_begins seed files edited + 1);
    }
