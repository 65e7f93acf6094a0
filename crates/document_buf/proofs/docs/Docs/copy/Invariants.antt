use Rattle.document_buf.proofs.Words.{◌≡◌, take}
use Rattle.document_buf.proofs.PlaceLemmas.{documents}
use Rattle.document_buf.proofs.docs.Docs.copy.Given as goal

-- as many documents are copied as were walked over
abbrev pub invariant-loop-doc : goal.invariant-loop-doc
invariant-loop-doc l = documents l.docs.items ≡ documents (take l.doc-index l.self-inside.docs.items)
