use Rattle.index_store.proofs.Words.{◌≡◌, ◌∷◌, [], map, rules, deref_pair, map-append, flat_map_more, iter_end, held_bytes}
use Rattle.index_store.proofs.store.put_held.Goals as goal

pub loop-key-preserved : goal.loop-key-preserved
loop-key-preserved c =
    rw (c.in_ok-put_entry.ensures, c.loop-key.invariant, map-append deref_pair c.loop-key.yielded ((c.in-Some.key, c.in-Some.stored) ∷ []))
    (flat_map_more held_bytes c.args.out.now.items (map deref_pair c.loop-key.yielded) (c.in-Some.key.now, c.in-Some.stored.now))

pub returns : goal.returns
returns c = let whole : map deref_pair c.loop-key.yielded ≡ c.args.held.now.entries = search (rules, iter_end) in rw whole at c.loop-key.invariant
