use Rattle.std.proofs.Common.{length}
use Rattle.write_history.specs.World.{World, unready_ids}
use Rattle.script_store.specs.Along.{HasSettled}
use Rattle.script_store.proofs.settling.settle.Given as goal

-- where a settle from here leads, one from the start leads
abbrev pub invariant-loop : goal.invariant-loop
invariant-loop l = (final : World) → HasSettled l.replay final → HasSettled l.fn.replay final

-- each turn takes an unready file in
abbrev pub decreases-loop : goal.decreases-loop
decreases-loop l = length (unready_ids l.replay)
