use Rattle.file_index.proofs.KeyRowLemmas.{in_order_by_key}
use Rattle.file_index.proofs.laws.rows_of_rising_keys_are_in_order.Goals as goal

pub returns : goal.returns
returns g c = in_order_by_key g.K.Ord.cmp g.V.Rank.rank_of
