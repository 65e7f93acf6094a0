use Rattle.transcript_check.proofs.StepLemmas.{not_told, told_so, rules, sym, ◌∙◌, IfOk-weaker}
use Rattle.transcript_check.proofs.told.is_told_here.Goals as goal

pub returns-then-not-branch : goal.returns-then-not-branch
returns-then-not-branch c = told_so (sym (c.in_ok-is_left.ensures c.args.seat) ∙ (search rules))
    (sym (not_told c.args.replay.now c.args.seat c.args.line.now c.args.text.now c.requires.no_load (sym c.in_ok-holds_here.ensures ∙ (search rules))))

pub returns : goal.returns
returns c = IfOk-weaker c.is_answered_so.result _ _ (λ told. told_so (sym (c.in_ok-is_left.ensures c.args.seat) ∙ (search rules))) c.is_answered_so.ensures
