use Rattle.overlay_index.proofs.Words.{◌∙◌}
use Rattle.overlay_index.proofs.SweepLemmas.{gives_both}
use Rattle.overlay_index.proofs.LayerLemmas as lemmas
use Rattle.overlay_index.proofs.layers.Layers.sweep.Goals as goal

pub returns-clause-base : goal.returns-clause-base
returns-clause-base c = rw (← c.self.view_is) (λ other. lemmas.base_same _ _ other (c.sweep.ensures.same other)
    (c.forget.ensures.same other ∙ c.release_any-2.ensures.same other ∙ c.release_any.ensures.same other))

pub returns-clause-overlay : goal.returns-clause-overlay
returns-clause-overlay c = rw (← c.self.view_is) (λ other. lemmas.overlay_same _ _ other (c.sweep.ensures.same other)
    (c.forget.ensures.same other ∙ c.release_any-2.ensures.same other ∙ c.release_any.ensures.same other))

pub returns-clause-keeps_room : goal.returns-clause-keeps_room
returns-clause-keeps_room c = rw (← c.self.view_is) (λ file parts other has.
    let apart = lemmas.apart c.args.file file other in
    let released = c.release_any-2.ensures.keeps_room file parts apart (c.release_any.ensures.keeps_room file parts apart has.tables) in
    record { tables = c.forget.ensures.keeps_room file parts apart released; place = c.sweep.ensures.keeps_place file apart has.place })

pub returns-clause-swept : goal.returns-clause-swept
returns-clause-swept c = rw (← c.self.view_is, ← c.gone.view_is) (record {
  places = gives_both c.args.file c.self.inside.tables c.release_any.new.tables c.release_any-2.new.tables c.forget.new.self
      (c.release_any-2.ensures.same c.args.file) (c.forget.ensures.same c.args.file) _ _ c.forget.ensures.places
      c.release_any.ensures.given_up c.release_any-2.ensures.given_up;
  known = c.forget.ensures.forgotten;
  hidden = c.sweep.ensures.swept;
})
