use Rattle.ide_script.proofs.reading.read_loads_of.Goals as goal

pub returns-in-Err-TreeFault-clause-asks_some : goal.returns-in-Err-TreeFault-clause-asks_some
returns-in-Err-TreeFault-clause-asks_some g c = λ _. rw (← c.prelude.ensures.lines) (c.read_loads.ensures.asks_some (search c.in-Err-TreeFault.is))
