use Rattle.index_workers.proofs.WorkLemmas.{same_on}
use Rattle.index_workers.proofs.laws.passes_stay_the_same.Goals as goal

pub returns : goal.returns
returns c = same_on
