use Rattle.index_store.proofs.Words.{◌≡◌, true, false, rules}
use Rattle.index_store.proofs.HeldLemmas.{row_text, taken_row, wrong_row}
use Rattle.index_store.proofs.store_reading.store_of.Goals as goal

pub take_in-requires-clause-text : goal.take_in-requires-clause-text
take_in-requires-clause-text c = row_text c.loop-row.store c.args.rows.now _ c.loop-row.invariant _ _ c.loop-row-test.true c.row-item.is c.requires.lawful

pub returns-then-not-right-clause-wrong : goal.returns-then-not-right-clause-wrong
returns-then-not-right-clause-wrong c =
    let other : c.in_ok-right.right ≡ false = search rules in
    wrong_row c.loop-row.store c.args.rows.now _ c.loop-row.invariant _ _ c.loop-row-test.true c.row-item.is
    _ _ (rw other at c.in_ok-right.ensures) c.len.ensures

pub loop-row-preserved : goal.loop-row-preserved
loop-row-preserved c =
    let right : c.in_ok-right.right ≡ true = search rules in
    taken_row c.loop-row.store c.args.rows.now _ c.loop-row.invariant _ _ c.loop-row-test.true c.row-item.is
    _ c.requires.lawful (rw right at c.in_ok-right.ensures)
