use Rattle.std.proofs.lemmas.Result.{on_ok_weaker}
use Rattle.ide_script.proofs.RunLemmas.{three_pieces}
use Rattle.ide_script.proofs.entry.write_bad_line.Goals as goal

pub returns-clause-ok : goal.returns-clause-ok
returns-clause-ok g c =
    let digits = rw (c.as_bytes.ensures.value, c.format.ensures.text) at c.in_ok-write_all-2.ensures.ok in
    on_ok_weaker c.write_all-3.result (three_pieces _ _ _ _ c.in_ok-write_all.ensures.ok digits) c.write_all-3.ensures.ok
