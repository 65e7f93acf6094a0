use Rattle.decl_parser.proofs.Words.{◌≡◌, None, drop, Other, field_after}
use Rattle.decl_parser.proofs.field.field_name.Given as goal

-- the nodes that are left decide
abbrev pub invariant-loop-node : goal.invariant-loop-node
invariant-loop-node l = field_after l.before l.name (drop l.node-index l.header) ≡ field_after Other None l.header
