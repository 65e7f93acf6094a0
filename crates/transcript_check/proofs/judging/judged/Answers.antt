use Rattle.transcript_check.proofs.MisfitLemmas.{all_found, rules}
use Rattle.transcript_check.proofs.judging.judged.Goals as goal

pub returns-clause-none : goal.returns-clause-none
returns-clause-none c = search (rules, all_found)
