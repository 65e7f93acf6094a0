use Rattle.decl_parser.proofs.Words.{◌≡◌, ◌≤◌, ◌++◌, take, drop, length, angled_after}
use Rattle.decl_parser.proofs.header.set_angled.Given as goal

-- the nodes so far and what becomes of the rest are all
abbrev pub invariant-loop-place : goal.invariant-loop-place
invariant-loop-place l = record {
  same : take l.place l.nodes.items ++ angled_after l.depth (drop l.place l.nodes.items) ≡ angled_after 0 l.initial.nodes.items;
  few : l.depth ≤ l.place;
  len : length l.nodes.items ≡ length l.initial.nodes.items;
}
