use Rattle.decl_parser.proofs.Words.{◌≡◌, ◌++◌, drop, map, name_of, supers_of, supers_after}
use Rattle.decl_parser.proofs.supers.supers_of.Given as goal

-- the supers so far and those of the rest are all
abbrev pub invariant-loop-node : goal.invariant-loop-node
invariant-loop-node l =
    l.supers ++ map (name_of l.text) (supers_after l.in_clause l.last (drop l.node-index l.behind)) ≡ map (name_of l.text) (supers_of l.behind)
