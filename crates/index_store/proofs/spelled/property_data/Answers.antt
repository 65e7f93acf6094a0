use Rattle.index_store.proofs.Words.{None, length, refl, rules, keys_of}
use Rattle.index_store.specs.Data.{data_of}
use Rattle.index_store.proofs.DataLemmas.{keys_after}
use Rattle.index_store.proofs.spelled.property_data.Goals as goal

pub returns-clause-lawful : goal.returns-clause-lawful
unfolding data_of
returns-clause-lawful c =
    let text = c.args.text.now in
    (refl, refl, keys_after (length text) 0 None (keys_of text) (λ place above. refl) (c.keys_stand_in_the_text.ensures text) (search rules), search rules)
