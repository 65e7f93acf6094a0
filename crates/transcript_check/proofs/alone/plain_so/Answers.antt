use Rattle.transcript_check.proofs.StepLemmas.{told_gone, short_of_entries, changed_gone, sym, ◌∙◌, IfOk-weaker}
use Rattle.transcript_check.proofs.alone.plain_so.Goals as goal

pub returns-then-branch : goal.returns-then-branch
returns-then-branch c = told_gone c.args.line.now (sym c.in_ok-is_answered_so.ensures ∙ c.if-branch.true)

pub returns-in_default : goal.returns-in_default
returns-in_default c = short_of_entries c.args.line.now c.made.view_is c.in_default.ensures.cases (sym c.in_ok-is_answered_so.ensures ∙ c.if-branch.false)

pub returns : goal.returns
returns c =
    IfOk-weaker c.change_so.result _ _
    (λ went. changed_gone c.args.line.now c.made.view_is c.in-Some.ensures.cases.0 c.requires.no_settle (sym c.in_ok-is_answered_so.ensures ∙ c.if-branch.false))
    c.change_so.ensures
