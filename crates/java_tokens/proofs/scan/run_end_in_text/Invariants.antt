use Rattle.java_tokens.proofs.Common.{◌≡◌, ◌+◌, length, drop, ◌-◌, prefix_len, is_in}
use Rattle.java_tokens.proofs.scan.run_end_in_text.Given as goal

abbrev pub invariant-loop-c : goal.invariant-loop-c
invariant-loop-c l = l.at + prefix_len (is_in l.class) (drop l.at l.piece) ≡ l.from + prefix_len (is_in l.class) (drop l.from l.piece)

abbrev pub decreases-loop-c : goal.decreases-loop-c
decreases-loop-c l = length l.piece - l.at
