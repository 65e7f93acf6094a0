use Rattle.java_tokens.proofs.Common.{sym, ◌∙◌}
use Rattle.java_tokens.proofs.TokenLemmas.{text_block_rest-goes_on}
use Rattle.java_tokens.proofs.scan.text_block_end.Goals as goal

pub loop-c-preserved : goal.loop-c-preserved
loop-c-preserved c =
    text_block_rest-goes_on c.loop-c.at c.in-Some.c c.args.piece.now c.in-Some.ensures.some c.if-c-eq92.false
    (sym c.ends_text_block.ensures ∙ c.if-ends_text_block.false)
    ∙ c.loop-c.invariant
