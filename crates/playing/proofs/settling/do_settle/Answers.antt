use Rattle.playing.proofs.Words.{settle_answer}
use Rattle.playing.proofs.SectionLemmas.{told_so}
use Rattle.playing.proofs.settling.do_settle.Goals as goal

pub returns-in-Ok-clause-answer : goal.returns-in-Ok-clause-answer
returns-in-Ok-clause-answer g c = told_so _ (λ start. settle_answer) _ _ _ _ c.in-Ok.ensures.ok.answered.answered

pub returns-in-Err-HistoryFull-clause-answer : goal.returns-in-Err-HistoryFull-clause-answer
returns-in-Err-HistoryFull-clause-answer g c =
    told_so _ (λ start. settle_answer) _ _ _ _ (rw c.in-Err-HistoryFull.field-0-is at c.in-Err-HistoryFull.ensures.err).answered.answered
