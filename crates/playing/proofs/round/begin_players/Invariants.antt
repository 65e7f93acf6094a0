use Rattle.playing.proofs.Words.{◌≡◌, ◌≤◌, length, ide_view, IsIdePassOf, IsSameIdePass, HasBegun}
use Rattle.playing.proofs.round.begin_players.Given as goal

-- so many players were begun, and there is room for all
abbrev pub invariant-loop-place : goal.invariant-loop-place
invariant-loop-place l = record {
  rests : IsIdePassOf l.ide l.pass;
  same : IsSameIdePass l.fn.pass l.pass;
  begun : HasBegun l.ide l.round.lanes (ide_view l.fn.pass) (ide_view l.pass) l.players.items;
  many : length l.players.items ≡ l.place;
  room : l.count ≤ l.players.cap;
}
