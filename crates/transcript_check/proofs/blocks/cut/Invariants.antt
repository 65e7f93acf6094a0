use Rattle.transcript_check.proofs.Words.{◌≡◌, ◌++◌, length, blocks_of}
use Rattle.transcript_check.proofs.blocks.cut.Given as goal

-- the blocks so far and those of what is left are all
abbrev pub invariant-loop-left : goal.invariant-loop-left
invariant-loop-left l = l.parts.items ++ blocks_of l.left ≡ blocks_of l.bytes

abbrev pub decreases-loop-left : goal.decreases-loop-left
decreases-loop-left l = length l.left
