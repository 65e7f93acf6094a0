-- A command grows by an argument or a subcommand.
use Rattle.std.proofs.Common.{◌≡◌, ◌∙◌, ◌||◌, Bool, false, ap}
use Rattle.clap.specs.Words.{AddsArg, AddsSubcommand, App, Rule, rule_of, shape_of, with_rule, with_subcommand}
use Rattle.clap.specs.declared.builder.arg.Arg.{Arg}
use Rattle.clap.specs.declared.builder.command.Command.{Command}
use Rattle.clap.specs.declared.builder.command.Command.TheViews.{out-Command as fields_of}
use Rattle.command_line.specs.Grammar.{IsCommandOf}

pub with_argument : (app : App) (rule : Rule) (old : Command) (a : Arg) (new : Command) → IsCommandOf app old → rule_of a ≡ rule → a.global ≡ false
    → AddsArg old a new → IsCommandOf (with_rule app rule) new
with_argument app rule old a new was is local adds =
    record {
      shape = adds.shape local ∙ ap (λ (x : App). with_rule x (rule_of a)) was.shape ∙ ap (with_rule app) is;
      local = adds.globals ∙ ap (λ (b : Bool). b || a.global) was.local ∙ local;
    }

pub with_command : (app sub_app : App) (old sub new : Command) → IsCommandOf app old → IsCommandOf sub_app sub → AddsSubcommand old sub new
    → IsCommandOf (with_subcommand app sub_app.top) new
with_command app sub_app old sub new was is adds = record {
  shape = adds.shape is.local ∙ ap (λ (x : App). with_subcommand x (shape_of sub)) was.shape ∙ ap (λ (x : App). with_subcommand app x.top) is.shape;
  local = adds.globals ∙ ap (λ (b : Bool). b || (fields_of sub).has_globals) was.local ∙ is.local;
}
