use Rattle.playing.proofs.Words.{◌≡◌, [], ◌∷◌, ◌++◌, length, ap, arith, length-append, Nothing, Player}
use Rattle.playing.proofs.RoundLemmas.{begun_more, pushed}
use Rattle.playing.proofs.round.begin_players.Goals as goal

pub loop-place-preserved : goal.loop-place-preserved
loop-place-preserved c =
    let before = c.loop-place.invariant in let split = c.in-Ok.ensures in
    let player : Player = record { pass = c.in-Ok.pass; duty = c.duty-duty.result; outcome = Nothing; apart = c.new-apart.result } in
    let room = c.loop-place.players.ok in
    let items : c.push.new.self.items ≡ c.loop-place.players.items ++ player ∷ [] =
    pushed c.push.result _ _ _ (c.push.ensures.succeeds (omega arith)) c.push.ensures.items in
    record {
      rests = split.pass.0;
      same = c.passes_stay_the_same.ensures _ _ _ before.same split.pass.1;
      begun = rw items (begun_more _ player before.begun split.ok.2 split.ok.0 split.ok.3 (rw before.many c.duty-duty.ensures));
      many = omega (arith, ap length items, length-append c.loop-place.players.items (player ∷ []), before.many);
      room = omega (arith, c.push.ensures.capacity, before.room);
    }
