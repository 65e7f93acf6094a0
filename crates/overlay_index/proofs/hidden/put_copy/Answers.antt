use Rattle.overlay_index.proofs.Words.{◌∙◌}
use Rattle.overlay_index.proofs.hidden.put_copy.Goals as goal

pub returns : goal.returns
returns c = λ other. c.in_ok-insert.ensures.updates.0 other ∙ rw c.in_ok-copy_base.ensures
