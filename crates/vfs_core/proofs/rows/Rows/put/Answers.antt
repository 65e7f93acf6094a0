use Rattle.vfs_core.proofs.Words.{◌≡◌, ◌∙◌, arith, is_some, count_le, with_row, with_row-set, row_in-with_row, length-within}
use Rattle.vfs_core.proofs.PutLemmas.{IsCounted, placed, counted}
use Rattle.vfs_core.proofs.rows.Rows.put.Goals as goal

count : (c : goal.After-is_some) → IsCounted c.self.inside.live c.is_some.result c.is_some-comes.result c.set-old.new.rows.items
count c = counted c.args.id c.args.row c.set-old.result c.self.inside.rows.items _ _ _ _ c.requires.above (rw (← c.self.view_is) at c.requires.inside)
    (omega (arith, c.ranges.id.fits)) c.self.invariant c.set-old.ensures.old c.set-old.ensures.rows c.is_some.ensures c.is_some-comes.ensures

pub overflow_sub-self : goal.overflow_sub-self
overflow_sub-self c = (count c).goes

pub overflow_add-self : goal.overflow_add-self
overflow_add-self c = let known = count c in omega (arith, known.count, known.fits, count_le is_some c.set-old.new.rows.items)

pub invariant_of-self : goal.invariant_of-self
invariant_of-self c = let known = count c.before in (known.count, known.fits)

is_with : (c : goal.After-self-1) → c.set-old.new.rows.items ≡ with_row c.args.id c.args.row c.args.self.now.rows
is_with c = rw (← c.self.view_is) (c.set-old.ensures.rows ∙ (placed c.args.id c.args.row c.self.inside.rows.items c.requires.above).0)

pub returns-clause-each : goal.returns-clause-each
returns-clause-each c = rw (is_with c) (λ other. row_in-with_row c.args.id c.args.row _ other c.requires.above c.requires.inside)

pub returns-clause-kept : goal.returns-clause-kept
returns-clause-kept c = rw (is_with c) (with_row-set c.args.id c.args.row _ c.requires.above)

pub returns-clause-made : goal.returns-clause-made
returns-clause-made c = rw (is_with c) (length-within c.args.id c.args.row _ c.requires.above)
