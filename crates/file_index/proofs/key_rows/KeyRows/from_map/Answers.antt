use Rattle.file_index.proofs.Words.{◌≡◌, rules}
use Rattle.file_index.proofs.KeyRowLemmas.{in_order_by_key}
use Rattle.file_index.proofs.key_rows.KeyRows.from_map.Goals as goal

pub invariant_of-result : goal.invariant_of-result
invariant_of-result g c =
    let all : c.loop-row.rows.items ≡ c.args.map.entries = search rules in
    rw all (in_order_by_key g.K.Ord.cmp g.V.Rank.rank_of c.args.map.entries c.len.ensures.ordered)
