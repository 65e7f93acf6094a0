use Rattle.index_store.proofs.Words.{◌≡◌, arith, rules, IfOk-weaker, bytes_below, IsStoreBytes, rows_of}
use Rattle.index_store.proofs.store_reading.checked_store.Goals as goal

pub store_of-requires : goal.store_of-requires
store_of-requires c =
    let bytes = c.args.bytes.now in
    let read = c.reading_is_exact.ensures.read bytes c.in-Ok.rows.items (bytes_below bytes (λ i. omega (arith, c.type_inv.bytes i))) in
    let held = read (search rules) c.in-Ok.ensures in
    rw c.deref.ensures.value (record { lawful = held.lawful; few = held.few })

pub returns-in-Ok-clause-read : goal.returns-in-Ok-clause-read
returns-in-Ok-clause-read c =
    let bytes = c.args.bytes.now in
    let read = c.reading_is_exact.ensures.read bytes c.in-Ok.rows.items (bytes_below bytes (λ i. omega (arith, c.type_inv.bytes i))) in
    IfOk-weaker c.store_of.result (λ store. rows_of store ≡ c.deref.result.now) (λ store. IsStoreBytes (rows_of store) bytes)
    (λ store same. rw (same, c.deref.ensures.value) (read (search rules) c.in-Ok.ensures)) c.store_of.ensures.right
