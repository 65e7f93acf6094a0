use Rattle.file_index.proofs.Words.{row_cmp}
use Rattle.file_index.proofs.IdLemmas.{parts_rise}
use Rattle.file_index.proofs.KeyRowLemmas.{run_is}
use Rattle.file_index.proofs.key_rows.KeyRows.at.Goals as goal

pub first_after-requires : goal.first_after-requires
first_after-requires g c = rw (c.split_at.ensures.back, c.as_slice-rows.ensures.rows)
    (parts_rise (row_cmp g.K.Ord.cmp g.V.Rank.rank_of) c.first_from.result c.args.self.now c.as_slice-rows.ensures.in_order).1

pub returns : goal.returns
returns g c = rw (c.split_at-2.ensures.front, c.split_at.ensures.back, ← c.as_slice-rows.ensures.rows)
    (run_is g.K.Ord.cmp g.V.Rank.rank_of g.met.K.Ord.total _ c.args.key.now g.K.PartialEq.eq g.met.K.Ord.matches_eq _ _ c.first_from.ensures.bound
    (rw c.split_at.ensures.back at c.first_after.ensures.bound) c.first_from.ensures.parts (rw c.split_at.ensures.back at c.first_after.ensures.parts))
