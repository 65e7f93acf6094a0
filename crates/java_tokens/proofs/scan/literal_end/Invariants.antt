use Rattle.java_tokens.proofs.Common.{◌≡◌, ◌+◌, length, drop, ◌-◌, literal_rest}
use Rattle.java_tokens.proofs.scan.literal_end.Given as goal

abbrev pub invariant-loop-c : goal.invariant-loop-c
invariant-loop-c l = l.at + literal_rest l.quote (drop l.at l.piece) ≡ l.from + literal_rest l.quote (drop l.from l.piece)

abbrev pub decreases-loop-c : goal.decreases-loop-c
decreases-loop-c l = length l.piece - l.at
