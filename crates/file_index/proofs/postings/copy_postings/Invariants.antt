use Rattle.file_index.proofs.Words.{◌≡◌, None, map, update_all, lookup, deref_pair}
use Rattle.file_index.proofs.postings.copy_postings.Given as goal

-- the keys so far were put in, one after another
abbrev pub invariant-loop-key : goal.invariant-loop-key
invariant-loop-key g l =
    (q : g.row.I-Key.Denot) → lookup (g.I.Key.PartialEq.eq q) l.files.entries ≡ update_all g.I.Key.PartialEq.eq (λ _. None) (map deref_pair l.yielded) q
