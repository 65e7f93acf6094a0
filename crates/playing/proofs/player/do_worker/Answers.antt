use Rattle.playing.proofs.player.do_worker.Goals as goal

pub returns-in-Ok-clause-worked : goal.returns-in-Ok-clause-worked
returns-in-Ok-clause-worked g c = c.workers_may_have_any_gate.ensures _ _ _ _ _ _ c.in-Ok.ensures.ok
