use Rattle.std.proofs.Common.{◌++◌, ap, ◌∙◌, decimal}
use Rattle.demo.proofs.ScriptLemmas.{line_written}
use Rattle.demo.proofs.command.push_line.Goals as goal

pub returns : goal.returns
returns c =
    line_written c.args.command _ _ _ _ _ _ _ _ (c.in_ok-extend_from_slice.ensures.items ∙ ap (λ bs. c.args.script.now.items ++ bs) c.word.ensures)
    c.in_ok-push_numbered.ensures c.in_ok-push_numbered-2.ensures c.in_ok-push_numbered-3.ensures c.in_ok-extend_from_slice-2.ensures.items
    (c.in_ok-push_numbered-4.ensures ∙ ap (λ bs. c.extend_from_slice-2.new.self.items ++ (bs ++ decimal c.args.command.method)) c.letter.ensures)
    c.in_ok-extend_from_slice-3.ensures.items
