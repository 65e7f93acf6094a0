use Rattle.query_engine.proofs.LookLemmas.{stopped_first, looked_first, counted_first}
use Rattle.query_engine.proofs.question.ask.Goals as goal

pub returns-in_err-look-clause-looked : goal.returns-in_err-look-clause-looked
returns-in_err-look-clause-looked g c =
    stopped_first (Unit {0}) _ c.from_residual.result _ _ c.in_err-look.ensures.cancelled c.from_residual.ensures.1 c.in_err-look.ensures.looked

pub returns-clause-looked : goal.returns-clause-looked
returns-clause-looked g c = looked_first g.met.W.Watch.stays_on c.look.ensures.stays c.in_ok-look.ensures.looked c.answer.ensures.replied

pub returns-clause-first_look : goal.returns-clause-first_look
returns-clause-first_look g c = counted_first c.args.watch.now c.look.ensures.once c.answer.ensures.replied

pub returns-clause-answer : goal.returns-clause-answer
returns-clause-answer g c = c.answer.ensures.replied.answer

pub returns-clause-refused : goal.returns-clause-refused
returns-clause-refused g c = c.answer.ensures.replied.refused
