use Rattle.property_index.proofs.Words.{◌∙◌, arith, refl, eq-eqb, ne_eqb}
use Rattle.property_index.specs.Lines.{logical_lines}
use Rattle.property_index.specs.Rest.{lines_left, inside_from}
use Rattle.property_index.proofs.LineLemmas.{left_on, behind_on, inside-break}
use Rattle.property_index.proofs.line_scan.past_logical_line.Goals as goal

pub returns-then-c-eq10-clause-left : goal.returns-then-c-eq10-clause-left
returns-then-c-eq10-clause-left c =
    let is_break = eq-eqb c.in-Some.c 10 c.if-c-eq10.true in
    rw (← c.loop-c.invariant.behind, left_on c.args.text.now c.loop-c.at 1, c.in-Some.ensures.some, inside-break _ _ is_break) refl

pub loop-c-preserved : goal.loop-c-preserved
loop-c-preserved c =
    let in_line = ne_eqb c.in-Some.c 10 c.if-c-eq10.false in
    record { behind = rw c.width-at.ensures (behind_on _ _ _ _ c.in-Some.ensures.some in_line ∙ c.loop-c.invariant.behind); forward = omega arith }

pub returns-clause-left : goal.returns-clause-left
unfolding lines_left logical_lines inside_from
returns-clause-left c = rw c.in_default.ensures.none (rw c.in_default.ensures.none at c.loop-c.invariant.behind)
