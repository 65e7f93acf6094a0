use Rattle.history_laws.proofs.StampLemmas.{rules, fold-append, IsLegal-append, IsLegal-split, entries-fold}
use Rattle.history_laws.proofs.laws.histories_go_on.Goals as goal

pub returns : goal.returns
returns c = search (rules, fold-append, IsLegal-append, IsLegal-split, entries-fold)
