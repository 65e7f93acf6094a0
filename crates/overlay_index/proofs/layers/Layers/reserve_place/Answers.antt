use Rattle.overlay_index.proofs.Words.{refl}
use Rattle.overlay_index.proofs.LayerLemmas.{base_same, overlay_same}
use Rattle.overlay_index.proofs.layers.Layers.reserve_place.Goals as goal

pub returns-clause-base : goal.returns-clause-base
returns-clause-base c = rw (← c.self.view_is) (λ other. base_same _ _ other (c.make_place.ensures.same other) refl)

pub returns-clause-overlay : goal.returns-clause-overlay
returns-clause-overlay c = rw (← c.self.view_is) (λ other. overlay_same _ _ other (c.make_place.ensures.same other) refl)
