use Rattle.overlay_index.proofs.Words.{rules, arith}
use Rattle.overlay_index.specs.Layers.{base_of, overlay_of}
use Rattle.overlay_index.proofs.layers.Layers.drop_file.Goals as goal

pub returns-clause-gone : goal.returns-clause-gone
unfolding base_of overlay_of
returns-clause-gone c = rw (← c.self.view_is, c.withdraw.ensures.old, c.take.ensures.old) (grind (arith))

pub returns-clause-base : goal.returns-clause-base
unfolding base_of
returns-clause-base c = rw (← c.self.view_is) (λ other. grind (arith, c.take.ensures.each other, c.withdraw.ensures.each other))

pub returns-clause-overlay : goal.returns-clause-overlay
unfolding overlay_of
returns-clause-overlay c = rw (← c.self.view_is) (λ other. grind (arith, c.take.ensures.each other, c.withdraw.ensures.each other))

pub returns-clause-keeps_room : goal.returns-clause-keeps_room
returns-clause-keeps_room c = rw (← c.self.view_is) (λ other given has. search (rules, c.withdraw.ensures.keeps_room, c.take.ensures.keeps_place))
