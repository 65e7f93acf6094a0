use Rattle.overlay_index.proofs.LayerLemmas.{shown_is, filled}
use Rattle.overlay_index.proofs.layers.Layers.method_rows.Goals as goal

pub returns : goal.returns
returns c = rw (← c.self.view_is) (λ last shown. simp shown_is (c.method_rows.ensures last (filled _ last shown)))
