use Rattle.transcript_check.proofs.Words.{◌≡◌, ◌≤◌, length, take, drop, after_lanes}
use Rattle.transcript_check.proofs.lanes.after_lanes.Given as goal

-- what is left is behind the lanes so far
abbrev pub invariant-loop-place : goal.invariant-loop-place
invariant-loop-place l = record {
  within : l.at ≤ length l.records;
  behind : after_lanes (take l.place l.script.lanes) l.records ≡ drop l.at l.records;
}
