use Rattle.ide_script.proofs.RunLemmas.{script_ends}
use Rattle.ide_script.proofs.index.run_index.Goals as goal

pub returns-in-Ok-store_bytes-clause-ends : goal.returns-in-Ok-store_bytes-clause-ends
returns-in-Ok-store_bytes-clause-ends g c =
    script_ends _ (record { script = _; read = c.in-Ok.ensures.ok; asked = c.in-Ok-store_bytes.ensures.asks_each; is = c.in-Ok-store_bytes.ensures.is }) _
    (rw (← c.deref.ensures.value) c.write_bytes.ensures.ends)
