use Rattle.decl_parser.proofs.Words.{◌≡◌, length, without_annotations, first_identifier}
use Rattle.decl_parser.proofs.annotation.first_plain_identifier.Given as goal

-- the nodes that are left decide
abbrev pub invariant-loop-node : goal.invariant-loop-node
invariant-loop-node l = first_identifier (without_annotations l.rest) ≡ first_identifier (without_annotations l.nodes)

abbrev pub decreases-loop-node : goal.decreases-loop-node
decreases-loop-node l = length l.rest
