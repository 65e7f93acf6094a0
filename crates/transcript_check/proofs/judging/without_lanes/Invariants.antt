use Rattle.transcript_check.proofs.Words.{◌≡◌, ◌-◌, length, drop, flat_map}
use Rattle.transcript_check.proofs.judging.without_lanes.Given as goal

-- what is left without the lanes to come is what all leave
abbrev pub invariant-loop-place : goal.invariant-loop-place
invariant-loop-place l = l.left - length (flat_map (λ lane. lane) (drop l.place l.script.lanes)) ≡ l.count - length (flat_map (λ lane. lane) l.script.lanes)
