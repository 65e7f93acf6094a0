use Rattle.index_store.proofs.Words.{err_from_is_err_and, goes_on, ends, is_done, row_at}
use Rattle.index_store.proofs.row_reading.rows_of.Goals as goal

pub returns-in_err-row : goal.returns-in_err-row
returns-in_err-row c =
    let p = err_from_is_err_and c.from_residual.result c.from_residual.ensures.1 in
    let fails = rw (c.last.ensures.value, c.deref.ensures.value) at c.in_err-row.ensures in
    rw (p.1, p.2) (ends row_at c.in_err-row.field-0.0 _ _ _ _ _ _ c.loop-test.true fails c.loop.invariant)

pub loop-preserved : goal.loop-preserved
loop-preserved c =
    let read = rw (c.last.ensures.value, c.deref.ensures.value) at c.in_ok-row.ensures in
    rw c.in_ok-push.ensures.items (goes_on row_at c.loop.rows.items _ _ _ _ _ _ c.loop-test.true read c.loop.invariant)

pub returns : goal.returns
returns c = is_done row_at _ _ _ _ _ _ c.loop-test.false c.loop.invariant
