use Rattle.transcript_check.proofs.Words.{◌≡◌, ◌+◌, length, take, drop, concat, blocks_of}
use Rattle.transcript_check.proofs.blocks.offset_of.Given as goal

-- what is left has the later blocks, and the bytes of the earlier ones were passed
abbrev pub invariant-loop-number : goal.invariant-loop-number
invariant-loop-number l = record {
  later : blocks_of l.left ≡ drop l._number (blocks_of l.fn.bytes);
  passed : length (concat (take l._number (blocks_of l.fn.bytes))) + length l.left ≡ length l.fn.bytes;
}
