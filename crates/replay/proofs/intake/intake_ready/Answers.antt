use Rattle.std.proofs.Common.{arith}
use Rattle.replay.proofs.IntakeLemmas.{not_refused}
use Rattle.replay.proofs.intake.intake_ready.Goals as goal

pub returns-in-Err-clause-refused : goal.returns-in-Err-clause-refused
returns-in-Err-clause-refused c =
    not_refused c.args.state.now.world c.args.file c.in-Some.row.now (rw c.in-Some.is at c.row.ensures)
    (omega (arith, c.if-entries-ge-MAX_ENTRIES.false, c.entries.ensures))
