use Rattle.std.proofs.Common.{◌≡◌}
use Rattle.demo.specs.Draws.{state_after}
use Rattle.demo.specs.Commands.{creates}
use Rattle.demo.proofs.commands.create_commands.Given as goal

-- the commands so far, and the state after their draws
abbrev pub invariant-loop-before : goal.invariant-loop-before
invariant-loop-before l = (l.commands.items ≡ creates l.fn.draws.state l.before) × (l.draws.state ≡ state_after l.fn.draws.state l.before)
