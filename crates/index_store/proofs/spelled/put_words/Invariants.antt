use Rattle.index_store.proofs.Words.{◌≡◌, true, ◌++◌, length, take, flat_map, number, are_spelled, word}
use Rattle.index_store.proofs.spelled.put_words.Given as goal

-- the number and those so far stand at the end, and their names can be spelled
abbrev pub invariant-loop-name : goal.invariant-loop-name
invariant-loop-name l =
    (l.out.items ≡ l.fn.out.items ++ (number (length l.fn.words) ++ flat_map word (take l.name-index l.fn.words)))
    × (are_spelled (take l.name-index l.fn.words) ≡ true)
