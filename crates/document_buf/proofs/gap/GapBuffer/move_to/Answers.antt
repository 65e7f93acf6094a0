use Rattle.document_buf.proofs.Words.{◌∙◌}
use Rattle.document_buf.proofs.GapLemmas.{moved_on}
use Rattle.document_buf.proofs.gap.GapBuffer.move_to.Goals as goal

pub returns-else-at-start-clause-front : goal.returns-else-at-start-clause-front
returns-else-at-start-clause-front c =
    c.move_on.ensures.front ∙ (moved_on c.self.inside c.args.self.now c.self.invariant c.self.view_is c.args.at c.if-at-start.false).0

pub returns-else-at-start-clause-back : goal.returns-else-at-start-clause-back
returns-else-at-start-clause-back c =
    c.move_on.ensures.back ∙ (moved_on c.self.inside c.args.self.now c.self.invariant c.self.view_is c.args.at c.if-at-start.false).1
