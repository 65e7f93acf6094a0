use Rattle.std.proofs.Common.{◌≡◌, take}
use Rattle.stub_tree.proofs.stub_list.StubList.copy.Given as goal

-- the stubs so far are the first stubs
abbrev pub invariant-loop-stub : goal.invariant-loop-stub
invariant-loop-stub l = l.stubs.items ≡ take l.stub-index l.stub-items
