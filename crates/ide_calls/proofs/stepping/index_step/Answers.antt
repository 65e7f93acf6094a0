use Rattle.ide_calls.proofs.StepLemmas.{idle, stepped}
use Rattle.ide_calls.proofs.stepping.index_step.Goals as goal

pub returns-in_default-clause-ok : goal.returns-in_default-clause-ok
returns-in_default-clause-ok g c = idle c.number-seat.result c.args.hint _ _ _ c.in_ok-at.ensures.ok c.in_default.is

pub returns-clause-ok : goal.returns-clause-ok
returns-clause-ok g c =
    stepped c.number-seat.result c.args.hint c.in_ok-at.field-0 c.in-Some.job c.in_ok-made.made.file c.in_ok-made.made.stamp _ _ _ c.take_in.result
    c.number-seat.ensures c.in_ok-at.ensures.ok c.in-Some.is c.in_ok-made.ensures.file c.in_ok-made.ensures.stamp c.take_in.ensures.ok
