use Rattle.stub_index.proofs.Words.{◌≡◌, ◌++◌, into_iter_items}
use Rattle.stub_index.proofs.shared_stubs.SharedStubs.of.Given as goal

-- the stubs so far and those that are left are all
abbrev pub invariant-loop-stub : goal.invariant-loop-stub
invariant-loop-stub l = l.shared.items ++ into_iter_items l.stub-iterator ≡ l.fn.list
