use Rattle.index_store.proofs.Words.{◌≡◌, ◌-◌, None, many_at, with_front, last, row_at}
use Rattle.index_store.proofs.row_reading.rows_of.Given as goal

-- the entries so far, and what the rest gives behind the last of them
abbrev pub invariant-loop : goal.invariant-loop
invariant-loop l = with_front l.rows.items (many_at row_at (l.count - l.counter) (last l.rows.items) l.rest) ≡ many_at row_at l.count None l.bytes
