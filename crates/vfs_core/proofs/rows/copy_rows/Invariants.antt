use Rattle.vfs_core.proofs.Words.{◌≡◌, ◌++◌, drop}
use Rattle.vfs_core.proofs.rows.copy_rows.Given as goal

-- the rows so far and the rest are all
abbrev pub invariant-loop-row : goal.invariant-loop-row
invariant-loop-row l = l.copy.items ++ drop l.row-index l.rows ≡ l.rows
