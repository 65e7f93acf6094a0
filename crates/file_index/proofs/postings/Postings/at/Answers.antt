use Rattle.std.specs.List.Sorted.{IsStrictlySortedBy}
use Rattle.file_index.proofs.postings.Postings.at.Goals as goal

pub returns-in-None-clause-rises : goal.returns-in-None-clause-rises
unfolding IsStrictlySortedBy
returns-in-None-clause-rises g c = tt
