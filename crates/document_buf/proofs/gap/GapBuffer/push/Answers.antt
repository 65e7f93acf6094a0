use Rattle.document_buf.proofs.Words.{arith, ap}
use Rattle.document_buf.proofs.GapLemmas.{pasted_more, pasted_back}
use Rattle.document_buf.proofs.gap.GapBuffer.push.Goals as goal

pub loop-at-preserved : goal.loop-at-preserved
loop-at-preserved c = record {
  chars = rw c.loop-at.invariant.chars (pasted_more c.self.inside.chars.items c.args.piece.now c.self.inside.start c.loop-at.at c.char_at.result
      (omega (arith, ap (λ gapped. gapped.spare) c.self.view_is)) c.char_at.ensures);
  start = c.loop-at.invariant.start;
  end = c.loop-at.invariant.end;
}

pub returns-clause-back : goal.returns-clause-back
returns-clause-back c =
    rw (c.loop-at.invariant.end, c.loop-at.invariant.chars, ← c.self.view_is)
    (pasted_back c.self.inside.chars.items c.args.piece.now c.self.inside.start c.loop-at.at c.self.inside.end
    (omega (arith, ap (λ gapped. gapped.spare) c.self.view_is)) (omega arith) (omega arith))
