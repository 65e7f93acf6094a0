use Rattle.decl_parser.proofs.Words.{◌≡◌, length, vec_len, vec_capacity, close}
use Rattle.decl_parser.proofs.forest.close_group.Given as goal

-- closing goes on as it began, and changes nodes in place
abbrev pub invariant-loop-innermost : goal.invariant-loop-innermost
invariant-loop-innermost l = record {
  closed : close l.bracket l.nodes.items l.unclosed ≡ close l.bracket l.initial.nodes.items l.initial.unclosed;
  room : vec_capacity l.nodes ≡ vec_capacity l.initial.nodes;
  len : vec_len l.nodes ≡ vec_len l.initial.nodes;
}

abbrev pub decreases-loop-innermost : goal.decreases-loop-innermost
decreases-loop-innermost l = length l.unclosed
