use Rattle.history_laws.proofs.SettleLemmas.{intake-full, entries-fold, rules}
use Rattle.history_laws.proofs.laws.intakes_are_refused_where_full.Goals as goal

pub returns : goal.returns
returns c = search (rules, intake-full, entries-fold)
