use Rattle.transcript_check.proofs.SideLemmas.{none_gone, section_waits, section_made, rules, sym, ◌∙◌, IfOk-weaker}
use Rattle.transcript_check.proofs.sides.section_goes.Goals as goal

pub returns-in_default : goal.returns-in_default
returns-in_default c = none_gone (search rules)

pub returns-then-is_busy_beside : goal.returns-then-is_busy_beside
returns-then-is_busy_beside c = section_waits {place = c.in-Some.place} (search rules) (sym c.is_busy_beside.ensures ∙ c.if-is_busy_beside.true)

pub returns : goal.returns
returns c =
    IfOk-weaker c.make.result _ _
    (λ went. section_made (search rules) c.index-cursors-place.result (sym c.is_busy_beside.ensures ∙ c.if-is_busy_beside.false)) c.make.ensures
