use Rattle.index_store.proofs.Words.{append_assoc}
use Rattle.index_store.proofs.HeldLemmas.{held_store}
use Rattle.index_store.proofs.store.Store.bytes.Goals as goal

pub returns : goal.returns
returns c =
    let first = c.in_ok-extend_from_slice.ensures.items in
    rw (← c.self.view_is) (held_store c.self.inside.held.entries c.put_held.new.out.items c.self.invariant.0 c.self.invariant.1 c.self.invariant.2
    (simp (c.in_ok-put_held.ensures, c.in_ok-put_number.ensures, first, c.new-out.ensures.items, c.len.ensures.len, append_assoc)))
