use Rattle.java_tokens.proofs.Common.{◌≡◌, ◌+◌, length, drop, ◌-◌, text_block_rest}
use Rattle.java_tokens.proofs.scan.text_block_end.Given as goal

abbrev pub invariant-loop-c : goal.invariant-loop-c
invariant-loop-c l = l.at + text_block_rest (drop l.at l.piece) ≡ l.from + text_block_rest (drop l.from l.piece)

abbrev pub decreases-loop-c : goal.decreases-loop-c
decreases-loop-c l = length l.piece - l.at
