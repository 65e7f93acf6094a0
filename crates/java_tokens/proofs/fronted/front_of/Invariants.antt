use Rattle.java_tokens.proofs.Common.{◌≡◌, ◌+◌, length, front_of}
use Rattle.java_tokens.proofs.fronted.front_of.Given as goal

-- the digits so far and those of the bytes that are left are all
abbrev pub invariant-loop-weight : goal.invariant-loop-weight
invariant-loop-weight l = l.front + front_of l.digits l.left ≡ front_of l.weights l.bytes

abbrev pub decreases-loop-weight : goal.decreases-loop-weight
decreases-loop-weight l = length l.digits
