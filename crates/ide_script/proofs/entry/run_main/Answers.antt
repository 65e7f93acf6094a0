use Rattle.ide_script.proofs.entry.run_main.Goals as goal

pub returns-clause-within : goal.returns-clause-within
returns-clause-within g c = λ other. c.run_given-status.ensures.within (λ same. other (cc (c.finish.ensures.number, same)))
