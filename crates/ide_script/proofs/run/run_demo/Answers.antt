use Rattle.ide_script.proofs.RunLemmas.{refl, demo_ends}
use Rattle.ide_script.proofs.run.run_demo.Goals as goal

pub returns-in-Ok-clause-ends : goal.returns-in-Ok-clause-ends
returns-in-Ok-clause-ends g c = demo_ends _ (record { told = _; ended = _; played = c.in-Ok.ensures; printed = refl }) _ c.write_summary.ensures.ends
