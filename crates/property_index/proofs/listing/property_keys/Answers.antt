use Rattle.property_index.proofs.Words.{append-nil}
use Rattle.property_index.specs.Lines.{logical_lines}
use Rattle.property_index.proofs.listing.property_keys.Goals as goal

-- nothing is left, so the keys in the list are all
pub returns : goal.returns
unfolding logical_lines
returns c = rw append-nil at (rw c.in_default.ensures.none at c.loop-first.invariant)
