use Rattle.first_plugin.specs.Passes.{StaysIn}
use Rattle.first_plugin.proofs.threads.edit.Given as goal

abbrev pub invariant-loop-turn : goal.invariant-loop-turn
invariant-loop-turn g l = StaysIn l.ide l.initial.pass l.pass
