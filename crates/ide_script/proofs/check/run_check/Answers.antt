use Rattle.ide_script.proofs.RunLemmas.{check_ends}
use Rattle.ide_script.proofs.check.run_check.Goals as goal

pub returns-in-Ok-judge-clause-ends : goal.returns-in-Ok-judge-clause-ends
returns-in-Ok-judge-clause-ends g c =
    let found = c.in-Ok-judge.ensures in
    check_ends _ _ (record { script = _; read = c.in-Ok.ensures.ok; asked = found.asks_each; is = found.judges }) _ c.tell.ensures.ends
