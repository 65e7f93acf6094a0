use Rattle.overlay_index.proofs.Words.{refl}
use Rattle.overlay_index.proofs.data.rows_of.Goals as goal

pub returns : goal.returns
returns c = rw (c.in_ok-rows.ensures, c.in_ok-rows-2.ensures, c.in_ok-rows-3.ensures, c.new.ensures) refl
