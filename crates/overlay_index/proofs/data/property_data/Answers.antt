use Rattle.overlay_index.proofs.Words.{refl}
use Rattle.overlay_index.specs.Parts.{parts_of}
use Rattle.overlay_index.proofs.data.property_data.Goals as goal

pub returns : goal.returns
unfolding parts_of
returns c = rw (c.new.ensures, c.new-2.ensures, c.new-3.ensures, c.new-4.ensures, c.in_ok-keys.ensures) refl
