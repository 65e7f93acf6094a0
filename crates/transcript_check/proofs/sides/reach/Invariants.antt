use Rattle.transcript_check.proofs.SideLemmas.{AreOnTheWay, drop}
use Rattle.transcript_check.proofs.sides.reach.Given as goal

-- lanes and workers stand behind all that is told here, and what is left leads where all leads
abbrev pub invariant-loop-place : goal.invariant-loop-place
invariant-loop-place l = AreOnTheWay l.beside l.lanes l.workers l.fn.cursors l.cursors l.entries (drop l.place l.entries) l.fn.replay l.replay l.taken
