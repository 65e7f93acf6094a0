use Rattle.document_buf.proofs.PlaceLemmas.{edited}
use Rattle.document_buf.proofs.docs.Docs.mark_saved.Goals as goal

pub invariant_of-self : goal.invariant_of-self
invariant_of-self c = (edited _ c.self.invariant c.self.view_is c.requires c.index_mut.ensures.value c.in-Some.is c.mark_saved.new.self).0

pub returns-clause-count : goal.returns-clause-count
returns-clause-count c = (edited _ c.self.invariant c.self.view_is c.requires c.index_mut.ensures.value c.in-Some.is c.mark_saved.new.self).1
