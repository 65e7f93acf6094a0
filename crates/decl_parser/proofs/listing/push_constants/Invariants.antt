use Rattle.decl_parser.proofs.Words.{◌≡◌, ◌++◌, drop, map, constant_stub}
use Rattle.decl_parser.proofs.listing.push_constants.Given as goal

-- the stubs so far and those of the rest are all
abbrev pub invariant-loop-name : goal.invariant-loop-name
invariant-loop-name l =
    l.stubs.items ++ map (constant_stub l.text l.depth) (drop l.name-index l.constants)
    ≡ l.initial.stubs.items ++ map (constant_stub l.text l.depth) l.constants
