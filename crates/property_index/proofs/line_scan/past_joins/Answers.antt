use Rattle.property_index.proofs.Words.{sym, ◌∙◌, arith}
use Rattle.property_index.proofs.LineLemmas.{left_on, join_next}
use Rattle.property_index.proofs.line_scan.past_joins.Goals as goal

-- the logical line goes on behind the white space
pub loop-at-preserved : goal.loop-at-preserved
loop-at-preserved c =
    let next = join_next _ (sym c.is_join.ensures.value ∙ c.loop-at-test.true) in
    record { same = rw (c.past_white_space-at.ensures.left, left_on c.args.text.now c.loop-at.at 2) (next ∙ c.loop-at.invariant.same); forward = omega arith }
