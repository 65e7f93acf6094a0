use Rattle.playing.proofs.Words.{Some, changes_answer}
use Rattle.playing.proofs.SectionLemmas.{told_so}
use Rattle.playing.proofs.changing.do_group.Goals as goal

pub returns-in-Ok-clause-answer : goal.returns-in-Ok-clause-answer
returns-in-Ok-clause-answer g c = told_so _ (λ start. changes_answer Some) _ _ _ _ c.in-Ok.ensures.accepted.answered

pub returns-in-Err-Refused-clause-answer : goal.returns-in-Err-Refused-clause-answer
returns-in-Err-Refused-clause-answer g c =
    told_so _ (λ start. changes_answer Some) _ _ _ _ (rw c.in-Err-Refused.field-0-is at c.in-Err-Refused.ensures.refused).answered.answered
