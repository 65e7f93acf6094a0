use Rattle.index_store.proofs.Words.{err_from_is_err_and, key_at}
use Rattle.index_store.proofs.FormatLemmas.{goes_on, ends, is_done}
use Rattle.index_store.proofs.reading.past_so_many_keys.Goals as goal

pub returns-in_err-key : goal.returns-in_err-key
returns-in_err-key c =
    let p = err_from_is_err_and c.from_residual.result c.from_residual.ensures.1 in
    let fails = rw c.as_ref.ensures.value at c.in_err-key.ensures in
    rw (p.1, p.2) (ends (key_at c.args.len) c.in_err-key.field-0.0 _ _ _ _ _ c.loop-test.true fails c.loop.invariant)

pub loop-preserved : goal.loop-preserved
loop-preserved c = goes_on (key_at c.args.len) _ _ _ _ _ _ _ c.loop-test.true (rw c.as_ref.ensures.value at c.in_ok-key.ensures) c.loop.invariant

pub returns : goal.returns
returns c = is_done (key_at c.args.len) _ _ _ _ _ c.loop-test.false c.loop.invariant
