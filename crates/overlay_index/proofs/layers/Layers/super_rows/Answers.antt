use Rattle.overlay_index.proofs.LayerLemmas.{shown_is, filled}
use Rattle.overlay_index.proofs.layers.Layers.super_rows.Goals as goal

pub returns : goal.returns
returns c = rw (← c.self.view_is) (λ last shown. simp shown_is (c.super_rows.ensures last (filled _ last shown)))
