use Rattle.document_buf.proofs.Words.{arith, refl}
use Rattle.document_buf.proofs.PlaceLemmas.{copied}
use Rattle.document_buf.proofs.docs.Docs.copy.Goals as goal

pub invariant_of-result : goal.invariant_of-result
invariant_of-result c = (copied c.self.inside record { docs = c.loop-doc.docs; open_docs = c.self.inside.open_docs } c.loop-doc.doc-index
    c.self.invariant refl (omega arith) c.loop-doc.invariant).0

pub returns-clause-same : goal.returns-clause-same
returns-clause-same c = rw (← c.self.view_is) (copied c.self.inside record { docs = c.loop-doc.docs; open_docs = c.self.inside.open_docs }
    c.loop-doc.doc-index c.self.invariant refl (omega arith) c.loop-doc.invariant).1

pub returns-clause-count : goal.returns-clause-count
returns-clause-count c = rw (← c.self.view_is) (copied c.self.inside record { docs = c.loop-doc.docs; open_docs = c.self.inside.open_docs }
    c.loop-doc.doc-index c.self.invariant refl (omega arith) c.loop-doc.invariant).2
