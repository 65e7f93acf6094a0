use Rattle.index_store.proofs.Words.{IfOk-weaker, IfErr-weaker, rows_of}
use Rattle.index_store.proofs.HeldLemmas.{one_list, no_refusal}
use Rattle.index_store.proofs.store_reading.read_store.Goals as goal

pub returns-clause-only : goal.returns-clause-only
returns-clause-only c = λ entries is.
    let bytes = c.args.bytes.now in
    let again = c.reading_is_exact.ensures.again bytes in
    let read = again (rows_of entries) is in (
      IfOk-weaker c.checked_store.result _ _ (λ store this. one_list bytes entries read store (again (rows_of store) this).1) c.checked_store.ensures.read,
      IfErr-weaker c.checked_store.result _ _ (no_refusal bytes entries read) c.checked_store.ensures.refused,
    )
