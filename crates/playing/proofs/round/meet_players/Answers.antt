use Rattle.playing.proofs.Words.{◌≡◌, List, [], ◌∷◌, ◌++◌, sym, ◌∙◌, arith, append_assoc, and_parts, Player, CanMeet}
use Rattle.playing.proofs.RoundLemmas.{met_more, taken_more, first_removed, holds_of_removed}
use Rattle.playing.proofs.round.meet_players.Goals as goal

pub meet-requires : goal.meet-requires
meet-requires c =
    let may = holds_of_removed (CanMeet c.args.ide.now) _ _ c.loop-left.left.items _ _ c.requires.players c.loop-left.invariant.are
    (omega (arith, c.loop-left.left.ok)) c.remove-other.ensures.value c.remove-other.ensures.items in
    record { pass = c.loop-left.invariant.rests; other = may.rests; follows = may.follows }

pub loop-left-preserved : goal.loop-left-preserved
loop-left-preserved c =
    let before = c.loop-left.invariant in let left = c.loop-left.left in let ok = left.ok in
    let player : Player = c.remove-other.result in
    let rest : List Player = c.remove-other.new.self.items in
    let first : left.items ≡ player ∷ rest = first_removed left.items rest player (omega arith) c.remove-other.ensures.value c.remove-other.ensures.items in
    record {
      rests = c.meet.ensures.pass.0;
      same = c.passes_stay_the_same.ensures _ _ _ before.same c.meet.ensures.pass.1;
      met = before.met ++ player ∷ [];
      are = rw append_assoc (rw first at before.are);
      learned = met_more _ player before.learned c.meet.ensures.view c.meet.ensures.keeps c.meet.ensures.learns;
      taken = λ whole. let both = and_parts c.loop-left.whole c.is_ok-whole.result whole in
          taken_more player c.take.result (before.taken both.0) (sym c.is_ok-whole.ensures.value ∙ both.1) c.take.ensures;
    }
