use Rattle.document_buf.proofs.PlaceLemmas.{removed}
use Rattle.document_buf.proofs.docs.Docs.close_doc.Goals as goal

pub overflow_sub-self : goal.overflow_sub-self
overflow_sub-self c = (removed _ c.args.id c.self.invariant (rw (← c.self.view_is) at c.requires)).2

pub invariant_of-self : goal.invariant_of-self
invariant_of-self c = (removed _ c.args.id c.self.invariant (rw (← c.self.view_is) at c.requires)).0

pub returns-clause-count : goal.returns-clause-count
returns-clause-count c = rw (← c.self.view_is) (removed _ c.args.id c.self.invariant (rw (← c.self.view_is) at c.requires)).1
