use Rattle.stub_index.proofs.Words.{◌≡◌, ◌++◌, drop, super_names, rows_named}
use Rattle.stub_index.proofs.super_names.named_by_supers.Given as goal

-- the rows so far and those of the stubs that are left are all
abbrev pub invariant-loop-shared : goal.invariant-loop-shared
invariant-loop-shared l = l.rows.items ++ rows_named super_names (drop l.shared-index l.stubs) ≡ rows_named super_names l.stubs
