use Rattle.transcript_check.proofs.StepLemmas.{not_entered, entered_so, rules, IfOk-weaker}
use Rattle.transcript_check.proofs.cursor.accept_so.Goals as goal

pub returns-then-not-branch : goal.returns-then-not-branch
returns-then-not-branch c = not_entered (search rules)

pub returns : goal.returns
returns c = IfOk-weaker c.enter_so.result _ _ (λ went. entered_so (search rules)) c.enter_so.ensures
