use Rattle.index_store.proofs.HeldLemmas.{has_more}
use Rattle.index_store.proofs.laws.one_entry_is_added.Goals as goal

pub returns : goal.returns
returns c = has_more
