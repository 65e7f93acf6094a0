use Rattle.overlay_index.proofs.LayerLemmas.{base_same, overlay_same}
use Rattle.overlay_index.proofs.layers.Layers.copy.Goals as goal

pub returns-clause-base : goal.returns-clause-base
returns-clause-base c =
    let hidden = rw c.in_ok-tables-2.ensures.1 at c.copy-2.ensures in
    rw (← c.self.view_is, c.in_ok-tables-2.ensures.0) (λ other. base_same _ _ other (hidden other) (c.in_ok-tables.ensures other))

pub returns-clause-overlay : goal.returns-clause-overlay
returns-clause-overlay c =
    let hidden = rw c.in_ok-tables-2.ensures.1 at c.copy-2.ensures in
    rw (← c.self.view_is, c.in_ok-tables-2.ensures.0) (λ other. overlay_same _ _ other (hidden other) (c.in_ok-tables.ensures other))
