use Rattle.java_tokens.proofs.Common.{sym, ◌∙◌}
use Rattle.java_tokens.proofs.TokenLemmas.{comment_rest-skip, comment_rest-next}
use Rattle.java_tokens.proofs.scan.comment_end.Goals as goal

pub loop-c-init : goal.loop-c-init
loop-c-init c = comment_rest-skip c.args.from c.skip_to-at.result c.args.piece.now c.skip_to-at.ensures

pub loop-c-preserved : goal.loop-c-preserved
loop-c-preserved c =
    comment_rest-next c.loop-c.at c.in-Some.c c.skip_to-at-in-Some.result c.args.piece.now c.in-Some.ensures.some
    (sym c.ends_comment.ensures ∙ c.if-ends_comment.false) c.skip_to-at-in-Some.ensures
    ∙ c.loop-c.invariant
