use Rattle.document_buf.proofs.Words.{arith}
use Rattle.document_buf.proofs.PlaceLemmas.{added}
use Rattle.document_buf.proofs.docs.Docs.open_doc.Goals as goal

pub overflow_add-self : goal.overflow_add-self
overflow_add-self c =
    let more = added _ c.args.id c.self.invariant c.args.doc (rw (← c.self.view_is) at c.requires.place) (rw (← c.self.view_is) at c.requires.closed) in
    omega (arith, more.2)

pub invariant_of-self : goal.invariant_of-self
invariant_of-self c =
    (added _ c.args.id c.self.invariant c.args.doc (rw (← c.self.view_is) at c.requires.place) (rw (← c.self.view_is) at c.requires.closed)).0

pub returns-clause-count : goal.returns-clause-count
returns-clause-count c = rw (← c.self.view_is)
    (added _ c.args.id c.self.invariant c.args.doc (rw (← c.self.view_is) at c.requires.place) (rw (← c.self.view_is) at c.requires.closed)).1
