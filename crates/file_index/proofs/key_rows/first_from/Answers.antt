use Rattle.file_index.proofs.Words.{rules, arith, is_lt, IsPartitionPoint-from_clause}
use Rattle.file_index.proofs.KeyRowLemmas.{parted}
use Rattle.file_index.proofs.key_rows.first_from.Goals as goal

pub returns-clause-parts : goal.returns-clause-parts
returns-clause-parts g c =
    let parts = parted g.K.Ord.cmp g.V.Rank.rank_of g.met.K.Ord.total c.args.rows.now c.args.key.now is_lt (λ r s le e. grind arith) c.requires in
    IsPartitionPoint-from_clause (λ row. is_lt (g.K.Ord.cmp row.0 c.args.key.now)) _ _ c.partition_point.ensures.partitioned parts (λ a r f call. search rules)
