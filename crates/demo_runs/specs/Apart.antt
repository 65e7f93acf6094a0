-- Scripts whose two lanes write different files, all of which the prelude makes.
use Rattle.std.specs.Prelude.{ℕ, ◌≡◌, ◌≢◌, ◌⊎◌, ◌+◌, ◌≤◌, true, List, [], ◌∷◌, length, map}
use Rattle.std.specs.List.{AllByRecursion}
use Rattle.write_history.specs.declared.change.Change.TheVariants.{Create, Write}
use Rattle.write_history.specs.Path.{is_path}
use Rattle.queries.specs.declared.query.Query.{Query}
use Rattle.queries.specs.declared.query.Query.TheVariants as query
use Rattle.script_lang.specs.declared.command.Command.TheVariants.{Change, Settle, Ask}
use Rattle.script_lang.specs.declared.line.Line.{Line}
use Rattle.script_lang.specs.Parts.{Parts}

-- a file gets a text by the line with this number
pub record Edit : Type 0 where
  pub number : ℕ
  pub path : List ℕ
  pub text : List ℕ

-- the line that makes the file
abbrev pub create_line : Edit → Line
create_line edit = record { number = edit.number; command = Change (Create edit.path edit.text) }

-- the line that writes the file
abbrev pub write_line : Edit → Line
write_line edit = record { number = edit.number; command = Change (Write edit.path edit.text) }

-- a question of the line with this number
pub record Question : Type 0 where
  pub number : ℕ
  pub query : Query

-- the line that asks
abbrev pub ask_line : Question → Line
ask_line question = record { number = question.number; command = Ask question.query }

-- the line that settles
abbrev pub settle_line : ℕ → Line
settle_line number = record { number = number; command = Settle }

-- one of the edits is of this path
abbrev pub IsAmong : List Edit → List ℕ → Type 0
IsAmong [] path = ⊥
IsAmong (edit ∷ edits) path = (edit.path ≡ path) ⊎ IsAmong edits path

-- a question about the workspace, and not about one path
abbrev pub IsOfAll : Query → Type 0
IsOfAll (query.Outline path) = ⊥
IsOfAll other = Unit {0}

-- The prelude makes at most 10,000 files at lawful paths, two lanes write some of them at most 50,000 times, no file in both, and the last
-- section settles and then asks about the workspace
pub record WritesApart (script : Parts) : Type 0 where
  pub creations : List Edit
  pub first : List Edit
  pub second : List Edit
  pub settle : ℕ
  pub questions : List Question
  pub prelude : script.prelude ≡ map create_line creations
  pub lanes : script.lanes ≡ map write_line first ∷ map write_line second ∷ []
  pub last : script.last ≡ settle_line settle ∷ map ask_line questions
  pub lawful : AllByRecursion (λ (edit : Edit). is_path edit.path ≡ true) creations
  pub first_made : AllByRecursion (λ (edit : Edit). IsAmong creations edit.path) first
  pub second_made : AllByRecursion (λ (edit : Edit). IsAmong creations edit.path) second
  pub apart : AllByRecursion (λ (edit : Edit). AllByRecursion (λ (other : Edit). edit.path ≢ other.path) second) first
  pub few_files : length creations ≤ 10000
  pub few_edits : length first + length second ≤ 50000
  pub of_all : AllByRecursion (λ (question : Question). IsOfAll question.query) questions
