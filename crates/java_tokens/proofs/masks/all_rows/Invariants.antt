use Rattle.java_tokens.proofs.Common.{◌≡◌, ◌++◌}
use Rattle.java_tokens.proofs.masks.all_rows.Given as goal

-- the rows so far and those that are left are all
abbrev pub invariant-loop-row : goal.invariant-loop-row
invariant-loop-row l = l.rows.items ++ l.row-iterator ≡ l.fn.map.entries
