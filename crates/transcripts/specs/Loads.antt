-- What is read for the loads of a prelude.
use Rattle.std.specs.Prelude.{ℕ, ◌≡◌, ◌≤◌, List, [], ◌∷◌, length, Option, Some, IfSome, Result, Ok, Err, if◌then◌else◌}
use Rattle.std.specs.List.{flat_map}
use Rattle.ide_io.specs.Files.{TreeFiles, max_file_len}
use Rattle.ide_text.specs.Text.{text_of}
use Rattle.ide_text.specs.declared.text.TextRefusal.{TextRefusal}
use Rattle.ide_text.specs.declared.text.TextRefusal.TheVariants as refusal
use Rattle.write_history.specs.Path.{is_path}
use Rattle.script_lang.specs.declared.command.Command.{Command}
use Rattle.script_lang.specs.declared.command.Command.TheVariants as command
use Rattle.script_lang.specs.declared.line.Line.{Line}
use Rattle.transcripts.specs.declared.loaded.Loaded.{Loaded}
use Rattle.transcripts.specs.declared.loaded.Loaded.TheVariants.{Nothing, Text, NotText, TooLong}

-- a text, or why there is none
abbrev pub loaded_from : Result (List ℕ) TextRefusal → Loaded
loaded_from (Ok text) = Text text
loaded_from (Err (refusal.NotText at)) = NotText at
loaded_from (Err (refusal.TooLong count)) = TooLong count
loaded_from (Err refusal.OutOfMemory) = Nothing

-- what bytes give
abbrev pub loaded_of : List ℕ → Loaded
loaded_of bytes = loaded_from (text_of bytes)

-- bytes were read, few enough for a file, which are those at the path where the tree tells its files
pub record IsRead (files : Option TreeFiles) (path : List ℕ) (load : Loaded) : Type 0 where
  pub bytes : List ℕ
  pub few : length bytes ≤ max_file_len
  pub told : IfSome files (λ at. at path ≡ Some bytes)
  pub gives : load ≡ loaded_of bytes

-- the paths for which a command asks the tree: that of a load, where it is lawful
abbrev pub paths_asked : Command → List (List ℕ)
paths_asked (command.Load path) = if is_path path then path ∷ [] else []
paths_asked command = []

-- the paths for which lines ask the tree, in their order
abbrev pub paths_of : List Line → List (List ℕ)
paths_of lines = flat_map (λ (line : Line). paths_asked line.command) lines

-- what was read where these paths are asked for, of which there is one at most: nothing where there is none
abbrev pub IsReadFor : Option TreeFiles → List (List ℕ) → Loaded → Type 0
IsReadFor files [] load = load ≡ Nothing
IsReadFor files (path ∷ paths) load = IsRead files path load

-- for a load of a lawful path the tree was read, and for any other line nothing
abbrev pub IsLoadOf : Option TreeFiles → Command → Loaded → Type 0
IsLoadOf files command load = IsReadFor files (paths_asked command) load

-- what was read for each line, in order
abbrev pub AreLoadsOf : Option TreeFiles → List Line → List Loaded → Type 0
AreLoadsOf files [] loads = loads ≡ []
AreLoadsOf files (line ∷ lines) [] = ⊥
AreLoadsOf files (line ∷ lines) (load ∷ loads) = IsLoadOf files line.command load × AreLoadsOf files lines loads
