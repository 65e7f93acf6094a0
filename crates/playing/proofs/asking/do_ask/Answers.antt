use Rattle.playing.proofs.SectionLemmas.{replies}
use Rattle.playing.proofs.asking.do_ask.Goals as goal

pub returns-clause-answer : goal.returns-clause-answer
returns-clause-answer g c = rw c.answer_of.ensures (replies _ _ _ _ c.in_ok-replied.ensures.ok)
