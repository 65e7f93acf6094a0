use Rattle.transcript_check.proofs.Words.{◌≡◌, List, ◌++◌, take, drop, map, Entry, fold, told_here}
use Rattle.transcript_check.proofs.round.tell_all.Given as goal

-- the sections so far have gone behind what is told, and the others stand as they stood
abbrev pub invariant-loop-place : goal.invariant-loop-place
invariant-loop-place l =
    (history : List Entry) → fold history ≡ l.replay
    → l.cursors ≡ map (told_here l.beside history) (take l.place l.fn.cursors) ++ drop l.place l.fn.cursors
