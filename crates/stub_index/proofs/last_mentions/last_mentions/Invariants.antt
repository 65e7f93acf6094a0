use Rattle.stub_index.proofs.Words.{◌≡◌, ℕ, List, length, option_or, nat_cmp, slice_cmp, get_by, behind_last}
use Rattle.stub_index.proofs.last_mentions.last_mentions.Given as goal

-- a name is mentioned last among those that are left, or where it was found
abbrev pub invariant-loop-name : goal.invariant-loop-name
invariant-loop-name l = (name : List ℕ) → option_or (behind_last name l.left) (get_by (λ k. slice_cmp nat_cmp name k.now) l.found) ≡ behind_last name l.names

abbrev pub decreases-loop-name : goal.decreases-loop-name
decreases-loop-name l = length l.left
