use Rattle.index_store.proofs.Words.{◌≡◌, ◌++◌, map, flat_map, deref_pair, held_bytes}
use Rattle.index_store.proofs.store.put_held.Given as goal

-- the entries so far stand at the end
abbrev pub invariant-loop-key : goal.invariant-loop-key
invariant-loop-key l = l.out.items ≡ l.fn.out.items ++ flat_map held_bytes (map deref_pair l.yielded)
