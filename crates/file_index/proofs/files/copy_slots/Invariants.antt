use Rattle.file_index.proofs.Words.{◌≡◌, ◌++◌, drop}
use Rattle.file_index.proofs.files.copy_slots.Given as goal

-- the copies so far and the rest are all
abbrev pub invariant-loop-slot : goal.invariant-loop-slot
invariant-loop-slot g l = l.copy.items ++ drop l.slot-index l.slots ≡ l.slots
