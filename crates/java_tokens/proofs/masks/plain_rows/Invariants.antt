use Rattle.java_tokens.proofs.Common.{◌≡◌, ◌++◌, into_iter_items}
use Rattle.java_tokens.proofs.masks.plain_rows.Given as goal

-- the rows so far and those that are left are all
abbrev pub invariant-loop-row : goal.invariant-loop-row
invariant-loop-row l = l.rows.items ++ into_iter_items l.row-iterator ≡ l.fn.fronted.items
