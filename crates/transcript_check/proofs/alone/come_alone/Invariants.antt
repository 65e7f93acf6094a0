use Rattle.transcript_check.proofs.StepLemmas.{ComesFrom, ◌≤◌, length}
use Rattle.transcript_check.proofs.alone.come_alone.Given as goal

-- going on from here leads where going on from the start does, and each line so far had a record
abbrev pub invariant-loop-at : goal.invariant-loop-at
invariant-loop-at l = record {
  comes : ComesFrom l.seat l.lines l.loads l.entries l.records l.fn.replay l.at l.made l.replay;
  within : l.at ≤ length l.records;
}
