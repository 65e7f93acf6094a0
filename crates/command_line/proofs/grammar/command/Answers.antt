use Rattle.std.proofs.lemmas.Result.{IfOk-weaker}
use Rattle.command_line.proofs.GrammarLemmas.{with_command}
use Rattle.command_line.proofs.grammar.command.Goals as goal

pub returns : goal.returns
returns c =
    let checked = with_command _ _ _ _ _ c.in_ok-playing_command.ensures c.in_ok-check_command.ensures c.in_ok-subcommand.ensures in
    IfOk-weaker c.subcommand-2.result _ _ (λ new. with_command _ _ _ _ new checked c.index_command.ensures) c.subcommand-2.ensures
