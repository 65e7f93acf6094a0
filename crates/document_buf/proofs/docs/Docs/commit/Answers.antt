use Rattle.document_buf.proofs.Words.{rules}
use Rattle.document_buf.proofs.PlaceLemmas.{edited}
use Rattle.document_buf.proofs.docs.Docs.commit.Goals as goal

pub invariant_of-self : goal.invariant_of-self
invariant_of-self c = (edited c.args.id c.self.invariant c.self.view_is (search rules) c.index_mut.ensures.value c.in-Some.is c.commit.new.self).0

pub returns-clause-count : goal.returns-clause-count
returns-clause-count c = (edited c.args.id c.self.invariant c.self.view_is (search rules) c.index_mut.ensures.value c.in-Some.is c.commit.new.self).1
