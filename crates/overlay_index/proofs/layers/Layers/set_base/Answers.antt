use Rattle.overlay_index.proofs.Words.{rules, arith, nat_tests, sym, ◌∙◌}
use Rattle.overlay_index.specs.Layers.{base_of, overlay_of}
use Rattle.overlay_index.proofs.layers.Layers.set_base.Goals as goal

pub returns-then-has-clause-gone : goal.returns-then-has-clause-gone
unfolding base_of
returns-then-has-clause-gone c = rw (← c.self.view_is, c.put.ensures.old) (grind (arith, sym c.has.ensures ∙ c.if-has.true))

pub returns-then-has-clause-base : goal.returns-then-has-clause-base
unfolding base_of
returns-then-has-clause-base c = rw (← c.self.view_is) (λ other. grind (arith, c.put.ensures.each other))

pub returns-then-has-clause-overlay : goal.returns-then-has-clause-overlay
unfolding overlay_of
returns-then-has-clause-overlay c = rw (← c.self.view_is) (λ other. grind (arith, nat_tests, sym c.has.ensures ∙ c.if-has.true, c.put.ensures.each other))

pub returns-else-has-clause-gone : goal.returns-else-has-clause-gone
unfolding base_of
returns-else-has-clause-gone c = rw (← c.self.view_is, c.swap.ensures.old) (grind (arith, sym c.has.ensures ∙ c.if-has.false))

pub returns-else-has-clause-base : goal.returns-else-has-clause-base
unfolding base_of
returns-else-has-clause-base c = rw (← c.self.view_is) (λ other. grind (arith, nat_tests, sym c.has.ensures ∙ c.if-has.false, c.swap.ensures.each other))

pub returns-else-has-clause-overlay : goal.returns-else-has-clause-overlay
unfolding overlay_of
returns-else-has-clause-overlay c = rw (← c.self.view_is) (λ other. grind (arith, nat_tests, sym c.has.ensures ∙ c.if-has.false, c.swap.ensures.each other))

pub returns-else-has-clause-keeps_room : goal.returns-else-has-clause-keeps_room
returns-else-has-clause-keeps_room c = rw (← c.self.view_is) (λ other given has. search (rules, c.swap.ensures.keeps_room))
