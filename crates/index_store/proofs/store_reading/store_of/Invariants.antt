use Rattle.index_store.proofs.Words.{◌≡◌, ◌++◌, drop, rows_of}
use Rattle.index_store.proofs.store_reading.store_of.Given as goal

-- the entries so far and the rows that are left are all rows
abbrev pub invariant-loop-row : goal.invariant-loop-row
invariant-loop-row l = rows_of l.store ++ drop l.row-index l.rows ≡ l.rows
