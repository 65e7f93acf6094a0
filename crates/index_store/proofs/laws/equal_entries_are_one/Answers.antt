use Rattle.index_store.proofs.HeldLemmas.{entry_equal, entry_itself}
use Rattle.index_store.proofs.laws.equal_entries_are_one.Goals as goal

pub returns-clause-same : goal.returns-clause-same
returns-clause-same c = entry_equal

pub returns-clause-itself : goal.returns-clause-itself
returns-clause-itself c = entry_itself
