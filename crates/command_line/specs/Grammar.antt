-- The command as clap is told of it.
use Rattle.std.specs.Prelude.{◌≡◌, true, false, [], ◌∷◌, Some, codes}
use Rattle.clap.specs.Words.{App, Rule, Text, app_of, new_app, new_rule, with_rule, with_subcommand}
use Rattle.clap.specs.declared.builder.command.Command.{Command}
use Rattle.clap.specs.declared.builder.command.Command.TheViews.{out-Command as fields_of}

-- an option `--name N`, with the digits that it has where it isn't given
abbrev pub number_option : Text → Text → Rule
number_option name default = record (new_rule name) { long = Some name; defaults = default ∷ [] }

-- an option `--name TEXT` that need not be given
abbrev pub text_option : Text → Rule
text_option name = record (new_rule name) { long = Some name }

-- a path that has to be given, as a word of its own
abbrev pub path_argument : Rule
path_argument = record (new_rule (codes "path")) { required = true }

-- `play --workers N --store PATH`
abbrev pub play_command : App
play_command = with_rule (with_rule (new_app (codes "play")) (number_option (codes "workers") (codes "0"))) (text_option (codes "store"))

-- `demo --seed S --files N --edits M --workers N`
abbrev pub demo_command : App
demo_command =
    with_rule (with_rule (with_rule (with_rule (new_app (codes "demo"))
    (number_option (codes "seed") (codes "1")))
    (number_option (codes "files") (codes "8")))
    (number_option (codes "edits") (codes "32")))
    (number_option (codes "workers") (codes "0"))

-- `check PATH --workers N`
abbrev pub check_command : App
check_command = with_rule (with_rule (new_app (codes "check")) path_argument) (number_option (codes "workers") (codes "0"))

-- `index`
abbrev pub index_command : App
index_command = new_app (codes "index")

-- the command with the two subcommands that play a script
abbrev pub playing_command : App
playing_command = with_subcommand (with_subcommand (new_app (codes "ide")) play_command.top) demo_command.top

-- the whole command, with these two and two more
abbrev pub command : App
command = with_subcommand (with_subcommand playing_command check_command.top) index_command.top

-- what a parse reads of the command is this, and no argument of it is global
pub record IsCommandOf (app : App) (c : Command) : Type 0 where
  pub shape : app_of c ≡ app
  pub local : (fields_of c).has_globals ≡ false
