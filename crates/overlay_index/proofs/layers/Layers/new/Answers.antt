use Rattle.overlay_index.specs.Layers.{base_of, overlay_of}
use Rattle.overlay_index.proofs.layers.Layers.new.Goals as goal

pub returns-clause-base : goal.returns-clause-base
unfolding base_of
returns-clause-base c = λ other. rw (c.new-2.ensures other) (c.new.ensures other)

pub returns-clause-overlay : goal.returns-clause-overlay
unfolding overlay_of
returns-clause-overlay c = λ other. rw (c.new-2.ensures other)
