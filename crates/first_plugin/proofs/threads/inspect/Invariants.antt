use Rattle.first_plugin.specs.Passes.{StaysIn}
use Rattle.first_plugin.proofs.threads.inspect.Given as goal

abbrev pub invariant-loop : goal.invariant-loop
invariant-loop g l = StaysIn l.ide l.initial.pass l.pass
