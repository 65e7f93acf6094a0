use Rattle.stub_index.proofs.Words.{◌≡◌, ◌++◌, drop, method_names, rows_named}
use Rattle.stub_index.proofs.method_names.named_methods.Given as goal

-- the rows so far and those of the stubs that are left are all
abbrev pub invariant-loop-shared : goal.invariant-loop-shared
invariant-loop-shared l = l.rows.items ++ rows_named method_names (drop l.shared-index l.stubs) ≡ rows_named method_names l.stubs
