use Rattle.file_index.proofs.KeyRowLemmas.{any_from_filter}
use Rattle.file_index.proofs.key_rows.KeyRows.has_key.Goals as goal

pub returns : goal.returns
returns g c = rw (c.is_empty.ensures, c.at.ensures) (any_from_filter (λ row. g.K.PartialEq.eq c.args.key.now row.0) c.args.self.now)
