use Rattle.playing.proofs.Words.{inl, inr, refl}
use Rattle.playing.proofs.SectionLemmas.{replies}
use Rattle.playing.proofs.asking.do_soft_ask.Goals as goal

pub returns-in-Ok-clause-answer : goal.returns-in-Ok-clause-answer
returns-in-Ok-clause-answer g c = inl (rw c.answer_of.ensures (replies _ _ _ _ c.in-Ok.ensures.ok), c.in-Ok.ensures.gave_way)

pub returns-in-Err-Cancelled-clause-answer : goal.returns-in-Err-Cancelled-clause-answer
returns-in-Err-Cancelled-clause-answer g c =
    let is = c.in-Err-Cancelled in
    inr record { sighted = _; told = refl; sights = rw is.field-0-is at is.ensures.refused; mine = is.ensures.mine }
