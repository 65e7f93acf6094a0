use Rattle.transcript_check.proofs.Words.{◌≡◌, ◌+◌, length, first_len}
use Rattle.transcript_check.proofs.blocks.first_len.Given as goal

-- so many bytes of the first block were passed, and what is left has the others
abbrev pub invariant-loop-byte : goal.invariant-loop-byte
invariant-loop-byte l = record {
  whole : l.len + first_len l.left ≡ first_len l.fn.bytes;
  few : l.len + length l.left ≡ length l.fn.bytes;
}

abbrev pub decreases-loop-byte : goal.decreases-loop-byte
decreases-loop-byte l = length l.left
