-- A script: its commands, section by section.
use Rattle.std.specs.Prelude.{List}
use Rattle.script_lang.specs.declared.line.Line.{Line}

-- the commands of the prelude, of each lane in order, and of the last section
pub record Parts : Type 0 where
  pub prelude : List Line
  pub lanes : List (List Line)
  pub last : List Line
