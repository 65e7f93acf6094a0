use Rattle.stub_index.proofs.Words.{◌≡◌, ℕ, true, List, ◌++◌, length, nat_cmp, slice_cmp, get_by, behind_last, has_name, distinct_names, rows_under}
use Rattle.stub_index.proofs.super_names.add_under.Given as goal

-- the rows so far and those of the names that are left are all, and these are found where they are mentioned last
abbrev pub invariant-loop-name : goal.invariant-loop-name
invariant-loop-name l =
    (l.rows.items ++ rows_under (distinct_names l.left) l.stub ≡ l.initial.rows.items ++ rows_under (distinct_names l.names) l.stub)
    × ((name : List ℕ) → has_name name l.left ≡ true → get_by (λ k. slice_cmp nat_cmp name k.now) l.mentions ≡ behind_last name l.left)

abbrev pub decreases-loop-name : goal.decreases-loop-name
decreases-loop-name l = length l.left
