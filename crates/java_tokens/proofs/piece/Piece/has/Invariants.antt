use Rattle.java_tokens.proofs.Common.{◌≡◌, ◌+◌, drop, begins_with}
use Rattle.java_tokens.proofs.piece.Piece.has.Given as goal

abbrev pub invariant-loop-wanted : goal.invariant-loop-wanted
invariant-loop-wanted l = record {
  place : l.place ≡ l.at + l.wanted-index;
  rest : begins_with (drop l.wanted-index l.mark) (drop l.place l.self) ≡ begins_with l.mark (drop l.at l.self);
}
