use Rattle.transcript_check.proofs.MisfitLemmas.{judges, rules}
use Rattle.transcript_check.proofs.judging.verdict.Goals as goal

pub returns-clause-verdict : goal.returns-clause-verdict
returns-clause-verdict g c = rw c.verdict_of.ensures (search (rules, judges))

pub returns-in_err-found-clause-asks_some : goal.returns-in_err-found-clause-asks_some
returns-in_err-found-clause-asks_some g c = λ fault. c.first_misfit.ensures.asks_some (search rules)
