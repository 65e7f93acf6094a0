use Rattle.document_buf.proofs.Words.{◌≡◌, ◌+◌, take, length}
use Rattle.document_buf.proofs.gap.GapBuffer.with_spare.Given as goal

-- the characters before the gap stand there, and then as many as were put into the gap
abbrev pub invariant-loop : goal.invariant-loop
invariant-loop l = record {
  front : take (length l.self.front) l.chars.items ≡ l.self.front;
  len : length l.chars.items ≡ length l.self.front + l.counter;
}
