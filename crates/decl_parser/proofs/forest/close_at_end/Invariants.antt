use Rattle.decl_parser.proofs.Words.{◌≡◌, length, vec_len, close_rest}
use Rattle.decl_parser.proofs.forest.close_at_end.Given as goal

-- closing goes on as it began
abbrev pub invariant-loop-innermost : goal.invariant-loop-innermost
invariant-loop-innermost l =
    record { same : close_rest l.nodes.items l.unclosed ≡ close_rest l.initial.nodes.items l.initial.unclosed; len : vec_len l.nodes ≡ vec_len l.initial.nodes }

abbrev pub decreases-loop-innermost : goal.decreases-loop-innermost
decreases-loop-innermost l = length l.unclosed
