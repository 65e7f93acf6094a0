use Rattle.transcript_check.proofs.MisfitLemmas.{prelude_stops, sides_stop, last_decides, after_all, rules}
use Rattle.transcript_check.proofs.judging.goes_through.Goals as goal

pub returns-in-Err : goal.returns-in-Err
returns-in-Err c = rw c.line_misfit.ensures (search (rules, prelude_stops))

pub returns-in-Err-reached : goal.returns-in-Err-reached
returns-in-Err-reached c = rw c.side_misfit.ensures (search (rules, sides_stop))

pub returns : goal.returns
returns c = rw c.last_misfit.ensures (search (rules, last_decides, after_all))
