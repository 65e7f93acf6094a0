use Rattle.overlay_index.proofs.Words.{arith, nat_tests}
use Rattle.overlay_index.specs.Layers.{base_of, overlay_of}
use Rattle.overlay_index.proofs.LayerLemmas.{covered_is}
use Rattle.overlay_index.proofs.layers.Layers.overlay_to_base.Goals as goal

pub returns-clause-gone : goal.returns-clause-gone
returns-clause-gone c = rw (← c.self.view_is, c.take.ensures.old) (covered_is _ c.args.file)

pub returns-clause-base : goal.returns-clause-base
unfolding base_of overlay_of
returns-clause-base c = rw (← c.self.view_is) (λ other. grind (arith, nat_tests, c.take.ensures.each other))

pub returns-clause-overlay : goal.returns-clause-overlay
unfolding overlay_of
returns-clause-overlay c = rw (← c.self.view_is) (λ other. grind (arith, c.take.ensures.each other))
