use Rattle.index_store.proofs.Words.{◌≡◌, ◌-◌, None, many_at, behind, word_at}
use Rattle.index_store.proofs.reading.past_so_many_words.Given as goal

-- what is left behind the rest is what is left behind all
abbrev pub invariant-loop : goal.invariant-loop
invariant-loop l = behind (many_at word_at (l.count - l.counter) l.before l.rest) ≡ behind (many_at word_at l.count None l.bytes)
