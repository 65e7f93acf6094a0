use Rattle.overlay_index.proofs.Words.{rules, refl}
use Rattle.overlay_index.proofs.LayerLemmas.{base_same, overlay_same}
use Rattle.overlay_index.proofs.layers.Layers.reserve.Goals as goal

pub returns-in_err-make_place-clause-base : goal.returns-in_err-make_place-clause-base
returns-in_err-make_place-clause-base c = rw (← c.self.view_is) (λ other. base_same _ _ other (c.make_place.ensures.same other) refl)

pub returns-in_err-make_place-clause-overlay : goal.returns-in_err-make_place-clause-overlay
returns-in_err-make_place-clause-overlay c = rw (← c.self.view_is) (λ other. overlay_same _ _ other (c.make_place.ensures.same other) refl)

pub returns-clause-base : goal.returns-clause-base
returns-clause-base c = rw (← c.self.view_is) (λ other. base_same _ _ other (c.make_place.ensures.same other) (c.reserve.ensures.same other))

pub returns-clause-overlay : goal.returns-clause-overlay
returns-clause-overlay c = rw (← c.self.view_is) (λ other. overlay_same _ _ other (c.make_place.ensures.same other) (c.reserve.ensures.same other))

pub returns-clause-keeps_room : goal.returns-clause-keeps_room
returns-clause-keeps_room c = rw (← c.self.view_is) (λ other given has. search (rules, c.reserve.ensures.keeps_room, c.make_place.ensures.keeps_place))
