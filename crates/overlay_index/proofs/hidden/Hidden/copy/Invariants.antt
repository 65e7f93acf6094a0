use Rattle.overlay_index.proofs.Words.{◌≡◌, ℕ, None, map, nat_cmp, eq_by_cmp, update_all, deref_pair, get}
use Rattle.overlay_index.proofs.hidden.Hidden.copy.Given as goal

-- the bases so far were put in, one after another
abbrev pub invariant-loop-file : goal.invariant-loop-file
invariant-loop-file l = (q : ℕ) → get nat_cmp l.bases q ≡ update_all (eq_by_cmp nat_cmp) (λ _. None) (map deref_pair l.yielded) q
