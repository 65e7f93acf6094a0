use Rattle.script_store.proofs.laws.a_store_has_the_indexed_texts.Goals as goal
use Rattle.script_store.proofs.HadLemmas.{had_of_world}

pub returns : goal.returns
returns c = λ x world. had_of_world c.one_entry_is_added.ensures c.a_path_has_one_kind.ensures x world
