use Rattle.property_index.proofs.Words.{refl, drop_from_slice_get}
use Rattle.property_index.proofs.line_scan.char_at.Goals as goal

pub returns-then-at-len-clause-some : goal.returns-then-at-len-clause-some
returns-then-at-len-clause-some c = rw (drop_from_slice_get c.args.text.now c.args.at _ c.char_at.ensures) refl
