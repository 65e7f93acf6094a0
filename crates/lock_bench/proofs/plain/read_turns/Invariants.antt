use Rattle.std.proofs.Common.{◌≤◌}
use Rattle.lock_bench.proofs.plain.read_turns.Given as goal

abbrev pub invariant-loop-turn : goal.invariant-loop-turn
invariant-loop-turn g l = l.done ≤ l.turn
