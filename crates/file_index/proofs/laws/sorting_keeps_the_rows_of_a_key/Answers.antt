use Rattle.file_index.proofs.KeyRowLemmas.{by_keys_under}
use Rattle.file_index.proofs.laws.sorting_keeps_the_rows_of_a_key.Goals as goal

pub returns : goal.returns
returns g c = λ key rows. by_keys_under g.K.Ord.cmp g.K.PartialEq.eq g.met.K.Ord.total g.met.K.Ord.matches_eq key rows
