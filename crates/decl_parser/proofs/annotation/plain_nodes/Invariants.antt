use Rattle.decl_parser.proofs.Words.{◌≡◌, ◌++◌, length, without_annotations}
use Rattle.decl_parser.proofs.annotation.plain_nodes.Given as goal

-- the nodes so far and those that the rest leaves are all
abbrev pub invariant-loop-node : goal.invariant-loop-node
invariant-loop-node l = l.plain.items ++ without_annotations l.rest ≡ without_annotations l.nodes

abbrev pub decreases-loop-node : goal.decreases-loop-node
decreases-loop-node l = length l.rest
