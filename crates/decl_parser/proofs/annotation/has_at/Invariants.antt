use Rattle.decl_parser.proofs.Words.{◌≡◌, drop, list_any, At, is}
use Rattle.decl_parser.proofs.annotation.has_at.Given as goal

-- the nodes that are left decide
abbrev pub invariant-loop-node : goal.invariant-loop-node
invariant-loop-node l = list_any (is At) (drop l.node-index l.nodes) ≡ list_any (is At) l.nodes
