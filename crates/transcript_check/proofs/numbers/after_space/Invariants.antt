use Rattle.transcript_check.proofs.Words.{◌≡◌, length, after_space}
use Rattle.transcript_check.proofs.numbers.after_space.Given as goal

-- what is left has the same first space
abbrev pub invariant-loop-byte : goal.invariant-loop-byte
invariant-loop-byte l = after_space l.left ≡ after_space l.bytes

abbrev pub decreases-loop-byte : goal.decreases-loop-byte
decreases-loop-byte l = length l.left
