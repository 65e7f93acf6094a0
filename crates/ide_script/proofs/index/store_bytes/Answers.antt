use Rattle.std.proofs.Common.{rules}
use Rattle.ide_script.proofs.index.store_bytes.Goals as goal

pub returns-in_err-loads-clause-asks_some : goal.returns-in_err-loads-clause-asks_some
returns-in_err-loads-clause-asks_some g c = λ failed. c.read_loads_of.ensures.asks_some (search (rules, failed))
