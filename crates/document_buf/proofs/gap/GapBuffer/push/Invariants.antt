use Rattle.document_buf.proofs.Words.{◌≡◌, paste}
use Rattle.document_buf.proofs.gap.GapBuffer.push.Given as goal

-- as many characters of the piece as the place tells stand from the start of the gap on, and nothing else changed
abbrev pub invariant-loop-at : goal.invariant-loop-at
invariant-loop-at l = record {
  chars : l.self-inside.chars.items ≡ paste l.initial.self-inside.chars.items l.start l.piece l.at;
  start : l.self-inside.start ≡ l.initial.self-inside.start;
  end : l.self-inside.end ≡ l.initial.self-inside.end;
}
