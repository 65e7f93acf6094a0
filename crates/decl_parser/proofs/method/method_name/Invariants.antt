use Rattle.decl_parser.proofs.Words.{◌≡◌, length, true, method_after}
use Rattle.decl_parser.proofs.method.method_name.Given as goal

-- the nodes that are left decide
abbrev pub invariant-loop-node : goal.invariant-loop-node
invariant-loop-node l = method_after l.only l.rest ≡ method_after true l.header

abbrev pub decreases-loop-node : goal.decreases-loop-node
decreases-loop-node l = length l.rest
