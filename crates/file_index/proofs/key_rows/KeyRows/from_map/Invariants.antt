use Rattle.file_index.proofs.Words.{◌≡◌, ◌++◌}
use Rattle.file_index.proofs.key_rows.KeyRows.from_map.Given as goal

-- the rows so far and those that are left are all
abbrev pub invariant-loop-row : goal.invariant-loop-row
invariant-loop-row g l = l.rows.items ++ l.row-iterator ≡ l.fn.map.entries
