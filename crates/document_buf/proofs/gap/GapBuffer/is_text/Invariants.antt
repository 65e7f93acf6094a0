use Rattle.document_buf.proofs.Words.{◌≡◌, take, joined_of}
use Rattle.document_buf.proofs.gap.GapBuffer.is_text.Given as goal

-- up to the place the characters are the same
abbrev pub invariant-loop-at : goal.invariant-loop-at
invariant-loop-at l = take l.at (joined_of l.self) ≡ take l.at l.text
