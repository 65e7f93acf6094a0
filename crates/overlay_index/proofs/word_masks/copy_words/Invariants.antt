use Rattle.overlay_index.proofs.Words.{◌≡◌, take}
use Rattle.overlay_index.proofs.word_masks.copy_words.Given as goal

-- the copies so far are the first words
abbrev pub invariant-loop-name : goal.invariant-loop-name
invariant-loop-name l = l.copies.items ≡ take l.name-index l.words
