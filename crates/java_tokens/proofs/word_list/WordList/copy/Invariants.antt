use Rattle.java_tokens.proofs.Common.{◌≡◌, take}
use Rattle.java_tokens.proofs.word_list.WordList.copy.Given as goal

-- the rows so far are the first rows
abbrev pub invariant-loop-name : goal.invariant-loop-name
invariant-loop-name l = l.rows.items ≡ take l.name-index l.name-items
