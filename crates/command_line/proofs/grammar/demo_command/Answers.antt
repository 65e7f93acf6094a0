use Rattle.std.proofs.lemmas.Result.{IfOk-weaker}
use Rattle.command_line.proofs.GrammarLemmas.{with_argument}
use Rattle.command_line.proofs.grammar.demo_command.Goals as goal

pub returns : goal.returns
returns c =
    let a = c.number_option.ensures in let b = c.number_option-2.ensures in let d = c.number_option-3.ensures in let e = c.number_option-4.ensures in
    let one = with_argument _ _ _ _ _ (record { shape = c.new.ensures.app; local = c.new.ensures.local }) a.rule a.local c.in_ok-arg.ensures in
    let two = with_argument _ _ _ _ _ one b.rule b.local c.in_ok-arg-2.ensures in
    let three = with_argument _ _ _ _ _ two d.rule d.local c.in_ok-arg-3.ensures in
    IfOk-weaker c.arg-4.result _ _ (λ new. with_argument _ _ _ _ new three e.rule e.local) c.arg-4.ensures
