use Rattle.transcript_check.proofs.Words.{◌≡◌, length, number_from}
use Rattle.transcript_check.proofs.numbers.number_at.Given as goal

-- the digits that are left go on to the number of all
abbrev pub invariant-loop-byte : goal.invariant-loop-byte
invariant-loop-byte l = number_from l.number l.left ≡ number_from 0 l.bytes

abbrev pub decreases-loop-byte : goal.decreases-loop-byte
decreases-loop-byte l = length l.left
