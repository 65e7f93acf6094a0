use Rattle.transcript_check.proofs.Words.{rules, sym}
use Rattle.transcript_check.proofs.judging.first_misfit.Goals as goal

pub returns-in-Err-TreeFault-clause-asks_some : goal.returns-in-Err-TreeFault-clause-asks_some
returns-in-Err-TreeFault-clause-asks_some g c = λ _. rw (sym c.prelude.ensures.lines) (c.read_loads.ensures.asks_some (search rules))
