use Rattle.document_buf.proofs.Words.{arith, joined_of, same_to_end}
use Rattle.document_buf.proofs.gap.GapBuffer.is_text.Goals as goal

pub returns : goal.returns
returns c = same_to_end (joined_of c.args.self.now) c.args.text.now c.loop-at.at (omega arith) (omega arith) c.loop-at.invariant
