use Rattle.stub_index.proofs.Words.{◌≡◌, ◌++◌, drop, type_names, rows_named}
use Rattle.stub_index.proofs.type_names.named_types.Given as goal

-- the rows so far and those of the stubs that are left are all
abbrev pub invariant-loop-shared : goal.invariant-loop-shared
invariant-loop-shared l = l.rows.items ++ rows_named type_names (drop l.shared-index l.stubs) ≡ rows_named type_names l.stubs
