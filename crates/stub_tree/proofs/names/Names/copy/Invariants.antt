use Rattle.std.proofs.Common.{◌≡◌, take}
use Rattle.stub_tree.proofs.names.Names.copy.Given as goal

-- the names so far are the first names
abbrev pub invariant-loop-name : goal.invariant-loop-name
invariant-loop-name l = l.items.items ≡ take l.name-index l.name-items
