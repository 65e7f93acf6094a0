use Rattle.decl_parser.proofs.Words.{◌≡◌, ◌≤◌, length, drop, annotation_rest}
use Rattle.decl_parser.proofs.annotation.annotation_end.Given as goal

-- what follows the annotation stays the same
abbrev pub invariant-loop-node : goal.invariant-loop-node
invariant-loop-node l =
    record { same : drop (annotation_rest l.rest) l.rest ≡ drop (annotation_rest l.nodes) l.nodes; no_more : length l.rest ≤ length l.nodes }

abbrev pub decreases-loop-node : goal.decreases-loop-node
decreases-loop-node l = length l.rest
