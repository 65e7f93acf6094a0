use Rattle.std.proofs.lemmas.Result.{IfOk-weaker}
use Rattle.command_line.proofs.GrammarLemmas.{with_command}
use Rattle.command_line.proofs.grammar.playing_command.Goals as goal

pub returns : goal.returns
returns c =
    let played = with_command _ _ _ _ _ (record { shape = c.new.ensures.app; local = c.new.ensures.local }) c.in_ok-play_command.ensures c.in_ok-subcommand.ensures in
    IfOk-weaker c.subcommand-2.result _ _ (λ new. with_command _ _ _ _ new played c.in_ok-demo_command.ensures) c.subcommand-2.ensures
