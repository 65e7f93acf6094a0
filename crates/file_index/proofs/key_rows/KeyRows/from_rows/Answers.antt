use Rattle.file_index.proofs.Words.{rules, answers_always, ranks_by}
use Rattle.file_index.proofs.KeyRowLemmas.{sorted_by_keys, by_keys_in_order}
use Rattle.file_index.proofs.key_rows.KeyRows.from_rows.Goals as goal

pub returns : goal.returns
returns g c =
    let order = ranks_by g.met.K.Ord.total (λ (row : g.row.K.Denot × g.row.V.Denot). row.0) in
    sorted_by_keys g.K.Ord.cmp g.K.PartialEq.eq g.met.K.Ord.total g.met.K.Ord.matches_eq c.args.rows.items c.sort_by.new.self.items
    (c.in_ok-sort_by.ensures.sorted _ order (answers_always _ _ _ (λ a r q k. search rules)))
    (c.in_ok-sort_by.ensures.stable _ order (answers_always _ _ _ (λ a r q k. search rules)))

pub invariant_of-result : goal.invariant_of-result
invariant_of-result g c = rw (returns g c)
    (by_keys_in_order g.K.Ord.cmp g.K.PartialEq.eq g.met.K.Ord.total g.met.K.Ord.matches_eq g.V.Rank.rank_of c.args.rows.items c.requires)
