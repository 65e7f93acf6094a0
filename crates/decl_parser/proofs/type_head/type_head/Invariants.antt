use Rattle.decl_parser.proofs.Words.{◌≡◌, length, type_head, type_after}
use Rattle.decl_parser.proofs.type_head.type_head.Given as goal

-- the nodes that are left decide
abbrev pub invariant-loop-node : goal.invariant-loop-node
invariant-loop-node l = type_after l.before l.rest ≡ type_head l.header

abbrev pub decreases-loop-node : goal.decreases-loop-node
decreases-loop-node l = length l.rest
