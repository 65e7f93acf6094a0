use Rattle.ide_calls.proofs.StepLemmas.{answered_within}
use Rattle.ide_calls.proofs.intake.take_in.Goals as goal

pub returns-clause-ok : goal.returns-clause-ok
returns-clause-ok g c =
    answered_within c.number-seat.result c.args.made.file c.args.made.stamp _ _ _ _ c.take_in_with_intent-answer.result
    c.number-seat.ensures c.intent.ensures.view c.release.ensures.view c.take_in_with_intent-answer.ensures.ok
