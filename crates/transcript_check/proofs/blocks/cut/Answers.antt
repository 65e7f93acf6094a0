use Rattle.transcript_check.proofs.TextBlocks.{cut-end, cut-turn, first_len-within, first_len-some, rules, arith, nat_tests}
use Rattle.transcript_check.proofs.blocks.cut.Goals as goal

pub split_at-requires : goal.split_at-requires
split_at-requires c = grind (arith, first_len-within)

pub loop-left-smaller : goal.loop-left-smaller
loop-left-smaller c = grind (arith, nat_tests, first_len-some)

pub loop-left-preserved : goal.loop-left-preserved
loop-left-preserved c =
    cut-turn _ _ c.split_at.result.0.now c.loop-left.left.now c.split_at.result.1.now _ c.is_empty.ensures c.loop-left-test.true (search rules)
    (search rules) (search rules) c.loop-left.invariant

pub returns : goal.returns
returns c = search (rules, cut-end)
