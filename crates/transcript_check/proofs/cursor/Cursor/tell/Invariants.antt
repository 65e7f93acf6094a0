use Rattle.transcript_check.proofs.Words.{◌≡◌, List, length, Entry, fold, told_here}
use Rattle.transcript_check.proofs.cursor.Cursor.tell.Given as goal

-- going on from here leads where going on from the start does
abbrev pub invariant-loop : goal.invariant-loop
invariant-loop l = (history : List Entry) → fold history ≡ l.replay → told_here l.beside history l.fn.self ≡ told_here l.beside history l.self

abbrev pub decreases-loop : goal.decreases-loop
decreases-loop l = length l.self.lines
