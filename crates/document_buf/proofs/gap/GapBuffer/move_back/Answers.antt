use Rattle.document_buf.proofs.Words.{arith}
use Rattle.document_buf.proofs.GapLemmas.{front_len, moved_back}
use Rattle.document_buf.proofs.gap.GapBuffer.move_back.Goals as goal

pub returns-clause-back : goal.returns-clause-back
returns-clause-back c =
    let before = front_len c.self.inside c.args.self.now c.self.invariant c.self.view_is in
    rw (c.copy_within.ensures.items, ← c.self.view_is)
    (moved_back c.self.inside.chars.items c.args.at c.self.inside.start c.self.inside.end (omega (arith, before)) (omega arith) (omega arith))
