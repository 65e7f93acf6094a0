use Rattle.ide_calls.proofs.Words.{◌≡◌, Some, Option, All, View, Advances, view_of, IsSamePass, Intends, Entry, Refusal, StaysOfWorld, HasGoneOn, HasGonePartly}
use Rattle.ide_calls.proofs.settling.settle_with_intent.Given as goal

-- what a settle from here leads to is what it leads to from the start
abbrev pub invariant-loop : goal.invariant-loop
invariant-loop g l = record {
  can : (goal.iterator-loop g).can_next l.iterator';
  ends : (goal.iterator-loop g).is_finite l.iterator';
  pass : Intends l.lock l.pass;
  same : IsSamePass l.initial.pass l.pass;
  own : (view_of l.pass).number ≡ Some l.seat;
  ahead : All (StaysOfWorld (view_of l.pass).seen) l.ahead;
  advances : Advances (view_of l.initial.pass) (view_of l.pass);
  whole : (w : View Entry) (refused : Option Refusal) → HasGoneOn l.seat l.line (view_of l.pass) w refused
      → HasGoneOn l.seat l.line (view_of l.initial.pass) w refused;
  part : (w : View Entry) → HasGonePartly l.seat l.line (view_of l.pass) w
      → HasGonePartly l.seat l.line (view_of l.initial.pass) w;
}
