use Rattle.java_tokens.proofs.Common.{◌≡◌, ◌+◌, length, drop, ◌-◌, comment_rest}
use Rattle.java_tokens.proofs.scan.comment_end.Given as goal

abbrev pub invariant-loop-c : goal.invariant-loop-c
invariant-loop-c l = l.at + comment_rest (drop l.at l.piece) ≡ l.from + comment_rest (drop l.from l.piece)

abbrev pub decreases-loop-c : goal.decreases-loop-c
decreases-loop-c l = length l.piece - l.at
