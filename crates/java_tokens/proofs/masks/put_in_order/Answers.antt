use Rattle.java_tokens.proofs.Common.{rules, is_lt, nat_list_cmp_total, nat_list_eq_equiv, keys_of, bytes_eq, always_returns_same, ranks_by}
use Rattle.java_tokens.proofs.Common.{IsPermutation-map, distinct_permutation, lookup_permutation, sorted_keys, name_cmp}
use Rattle.java_tokens.proofs.MaskLemmas.{gathered_sorted}
use Rattle.java_tokens.proofs.masks.put_in_order.Goals as goal

-- sorted, the rows are the ordered list
pub returns : goal.returns
returns c =
    let es = c.args.rows.now.items in
    let ds = c.sort_unstable_by.new.self.items in
    let moves = c.sort_unstable_by.ensures.permutation in
    let distinct = distinct_permutation nat_list_eq_equiv (keys_of es) (keys_of ds) (IsPermutation-map (λ e. e.0) es ds moves) c.requires in
    let sorted = sorted_keys (λ a b. is_lt (name_cmp a b)) ds
    (c.sort_unstable_by.ensures.sorted (λ a b. is_lt (name_cmp a.0 b.0)) (ranks_by nat_list_cmp_total (λ e. e.0))
    (always_returns_same _ _ _ (λ a r g called. search rules))) in
    gathered_sorted es ds c.requires distinct sorted (λ name.
    lookup_permutation nat_list_eq_equiv es ds moves distinct (bytes_eq name) (nat_list_eq_equiv.congr name))
