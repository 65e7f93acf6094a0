-- What the commands of a script are.
use Rattle.std.specs.Prelude.{ℕ, ◌≡◌, ◌+◌, ◌≤◌, true, List, [], ◌∷◌, ◌++◌, All, length}
use Rattle.std.specs.List.{flat_map, list_all}
use Rattle.write_history.specs.Changes.{AreFew, is_edit}
use Rattle.script_lang.specs.Commands.{max_attempts}
use Rattle.script_lang.specs.Parts.{Parts}
use Rattle.script_lang.specs.Reading.{max_lanes}
use Rattle.script_lang.specs.declared.command.Command.{Command}
use Rattle.script_lang.specs.declared.command.Command.TheVariants as command
use Rattle.script_lang.specs.declared.line.Line.{Line}

-- a command that lines can hold: a change is no intake, a group has 1 to 64 of them, and a soft read 1 to 1000 attempts
abbrev pub IsOfLine : Command → Type 0
IsOfLine (command.Change change) = is_edit change ≡ true
IsOfLine (command.Group changes) = AreFew changes × (list_all is_edit changes ≡ true)
IsOfLine (command.Load path) = Unit {0}
IsOfLine command.Settle = Unit {0}
IsOfLine (command.Ask query) = Unit {0}
IsOfLine (command.Soft attempts query) = (1 ≤ attempts) × (attempts ≤ max_attempts)

-- a command other than a load
abbrev pub IsNoLoad : Command → Type 0
IsNoLoad (command.Load path) = ⊥
IsNoLoad command = Unit {0}

-- the commands of a prelude
abbrev pub AreOfPrelude : List Line → Type 0
AreOfPrelude lines = All (λ line. IsOfLine line.command) lines

-- the commands of a lane or of the last section
abbrev pub AreOfSection : List Line → Type 0
AreOfSection lines = All (λ line. IsOfLine line.command × IsNoLoad line.command) lines

-- the numbers of some commands rise, and are this one or more
abbrev pub RiseFrom : ℕ → List Line → Type 0
RiseFrom number [] = Unit {0}
RiseFrom number (line ∷ lines) = (number ≤ line.number) × RiseFrom (line.number + 1) lines

-- the commands of all sections, in the order of the script's lines
abbrev pub all_lines : Parts → List Line
all_lines script = script.prelude ++ flat_map (λ lane. lane) script.lanes ++ script.last

-- the commands of a script
pub record AreOfScript (script : Parts) : Type 0 where
  pub prelude : AreOfPrelude script.prelude
  pub few : length script.lanes ≤ max_lanes
  pub lanes : All AreOfSection script.lanes
  pub last : AreOfSection script.last
  pub rise : RiseFrom 1 (all_lines script)
