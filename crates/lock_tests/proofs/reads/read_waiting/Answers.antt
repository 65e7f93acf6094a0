use Rattle.lock_tests.proofs.reads.read_waiting.Goals as goal

pub leave-requires : goal.leave-requires
leave-requires g c = c.check-seen.ensures.reads c.in-Ok.ensures.ok.0
