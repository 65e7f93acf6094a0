use Rattle.history_laws.proofs.Words.{arith, rules, count-with_row, length-within, length-next}
use Rattle.history_laws.proofs.laws.puts_are_counted.Goals as goal

pub returns : goal.returns
returns c = search (rules, count-with_row, length-within, length-next)
