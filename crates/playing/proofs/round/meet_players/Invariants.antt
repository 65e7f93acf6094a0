use Rattle.playing.proofs.Words.{◌≡◌, true, List, ◌++◌, ide_view, IsIdePassOf, IsSameIdePass, Player, HasMet, HaveGathered}
use Rattle.playing.proofs.round.meet_players.Given as goal

-- the first players were met, and what they did is among the answers
abbrev pub invariant-loop-left : goal.invariant-loop-left
invariant-loop-left l = record {
  rests : IsIdePassOf l.ide l.pass;
  same : IsSameIdePass l.fn.pass l.pass;
  met : List Player;
  are : l.fn.players.items ≡ met ++ l.left.items;
  learned : HasMet met (ide_view l.fn.pass) (ide_view l.pass);
  taken : l.whole ≡ true → HaveGathered met l.fn.answers l.answers;
}

abbrev pub decreases-loop-left : goal.decreases-loop-left
decreases-loop-left l = l.left.len
