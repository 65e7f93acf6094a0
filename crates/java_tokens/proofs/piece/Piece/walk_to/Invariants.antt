use Rattle.java_tokens.proofs.Common.{◌≡◌, ◌+◌, length, drop, ◌-◌, prefix_len, is_other}
use Rattle.java_tokens.proofs.piece.Piece.walk_to.Given as goal

abbrev pub invariant-loop-c : goal.invariant-loop-c
invariant-loop-c l = l.at + prefix_len (is_other l.mark) (drop l.at l.self) ≡ l.from + prefix_len (is_other l.mark) (drop l.from l.self)

abbrev pub decreases-loop-c : goal.decreases-loop-c
decreases-loop-c l = length l.self - l.at
