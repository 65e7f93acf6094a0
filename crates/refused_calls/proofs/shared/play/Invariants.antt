use Rattle.refused_calls.specs.Passes.{StaysIn}
use Rattle.refused_calls.proofs.shared.play.Given as goal

abbrev pub invariant-loop-step : goal.invariant-loop-step
invariant-loop-step g l = StaysIn l.ide l.initial.pass l.pass
