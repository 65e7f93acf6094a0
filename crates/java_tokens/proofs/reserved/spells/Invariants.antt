use Rattle.java_tokens.proofs.Common.{◌≡◌, drop, bytes_eq}
use Rattle.java_tokens.proofs.reserved.spells.Given as goal

-- the rest of the word against the rest of the piece decides
abbrev pub invariant-loop-byte : goal.invariant-loop-byte
invariant-loop-byte l = record {
  place : l.at ≡ l.byte-index;
  rest : bytes_eq (drop l.byte-index l.word) (drop l.at l.piece) ≡ bytes_eq l.word l.piece;
}
