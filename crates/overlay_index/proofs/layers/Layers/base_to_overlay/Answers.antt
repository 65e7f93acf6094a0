use Rattle.overlay_index.proofs.Words.{arith, nat_tests}
use Rattle.overlay_index.specs.Layers.{base_of, overlay_of}
use Rattle.overlay_index.proofs.LayerLemmas.{covered_is}
use Rattle.overlay_index.proofs.layers.Layers.base_to_overlay.Goals as goal

pub returns-clause-gone : goal.returns-clause-gone
returns-clause-gone c = rw (← c.self.view_is, c.put.ensures.old) (covered_is _ c.args.file)

pub returns-clause-base : goal.returns-clause-base
unfolding base_of
returns-clause-base c = rw (← c.self.view_is) (λ other. grind (arith, rw c.new-bare.ensures at (c.put.ensures.each other)))

pub returns-clause-overlay : goal.returns-clause-overlay
unfolding base_of overlay_of
returns-clause-overlay c = rw (← c.self.view_is) (λ other. grind (arith, nat_tests, rw c.new-bare.ensures at (c.put.ensures.each other)))
