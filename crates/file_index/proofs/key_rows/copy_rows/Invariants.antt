use Rattle.file_index.proofs.Words.{◌≡◌, take}
use Rattle.file_index.proofs.key_rows.copy_rows.Given as goal

-- the copies so far are the first rows
abbrev pub invariant-loop-key : goal.invariant-loop-key
invariant-loop-key g l = l.copies.items ≡ take l.key-index l.key-items
