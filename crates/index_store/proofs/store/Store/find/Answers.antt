use Rattle.index_store.proofs.HeldLemmas.{found}
use Rattle.index_store.proofs.store.Store.find.Goals as goal

pub returns : goal.returns
returns c =
    rw (c.get.ensures.value, c.code_of.ensures, ← c.self.view_is)
    (found c.self.inside.held.entries (record { text = c.args.text; kind = c.args.kind }) c.self.invariant.0)
