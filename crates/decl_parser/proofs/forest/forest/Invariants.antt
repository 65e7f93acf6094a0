use Rattle.decl_parser.proofs.Words.{◌≡◌, ◌≤◌, drop, length, fold, vec_len, vec_capacity, step, scan_of}
use Rattle.decl_parser.proofs.forest.forest.Given as goal

-- what the tokens that are left make of the nodes so far is the whole, and there is room for a node of each
abbrev pub invariant-loop-token : goal.invariant-loop-token
invariant-loop-token l = record {
  whole : fold (step l.text) (record { nodes = l.nodes.items; unclosed = l.unclosed }) (drop l.token-index l.tokens) ≡ scan_of l.text l.tokens;
  room : length l.tokens ≤ vec_capacity l.nodes;
  few : vec_len l.nodes ≤ l.token-index;
}
