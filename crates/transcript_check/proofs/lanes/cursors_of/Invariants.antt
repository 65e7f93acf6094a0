use Rattle.transcript_check.proofs.Words.{◌≡◌, ◌≤◌, ◌++◌, suc, length, drop, cursors_of}
use Rattle.transcript_check.proofs.lanes.cursors_of.Given as goal

-- the lanes so far and those to come are all
abbrev pub invariant-loop-place : goal.invariant-loop-place
invariant-loop-place l = record {
  within : l.at ≤ length l.records;
  whole : l.cursors.items ++ cursors_of (suc l.place) (drop l.place l.script.lanes) (drop l.at l.records) ≡ cursors_of 1 l.script.lanes l.records;
}
