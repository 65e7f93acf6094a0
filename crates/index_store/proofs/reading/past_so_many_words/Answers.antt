use Rattle.index_store.proofs.Words.{err_from_is_err_and, word_at}
use Rattle.index_store.proofs.FormatLemmas.{goes_on, ends, is_done}
use Rattle.index_store.proofs.reading.past_so_many_words.Goals as goal

pub returns-in_err-word : goal.returns-in_err-word
returns-in_err-word c =
    let p = err_from_is_err_and c.from_residual.result c.from_residual.ensures.1 in
    rw (p.1, p.2) (ends word_at c.in_err-word.field-0.0 _ _ _ _ _ c.loop-test.true (rw c.as_ref.ensures.value at c.in_err-word.ensures) c.loop.invariant)

pub loop-preserved : goal.loop-preserved
loop-preserved c = goes_on word_at _ _ _ _ _ _ _ c.loop-test.true (rw c.as_ref.ensures.value at c.in_ok-word.ensures) c.loop.invariant

pub returns : goal.returns
returns c = is_done word_at _ _ _ _ _ c.loop-test.false c.loop.invariant
