use Rattle.java_tokens.proofs.Common.{◌≡◌, ◌≤◌, IsUtf8, drop, length, chars_rest, bytes_eq, chars}
use Rattle.java_tokens.proofs.name_places.is_spelled.Given as goal

-- the rest of the name against the rest of the piece decides
abbrev pub invariant-loop-c : goal.invariant-loop-c
invariant-loop-c l = record {
  utf8 : IsUtf8 (chars_rest l.c-iterator);
  inside : l.at ≤ length l.piece;
  rest : bytes_eq (chars (chars_rest l.c-iterator)) (drop l.at l.piece) ≡ bytes_eq l.name l.piece;
}
