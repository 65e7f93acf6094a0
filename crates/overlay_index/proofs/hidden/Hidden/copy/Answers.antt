use Rattle.overlay_index.proofs.Words.{◌≡◌, None, map, refl, ap, ◌∙◌, rules, unwrap_or, nat_cmp, eq_by_cmp, update_all, keys_of, deref_pair, get, nat_cmp_total}
use Rattle.overlay_index.proofs.Words.{eq_by_cmp_equiv, map-append, update_all_push, iter_end, IsDistinct-from_sorted, update_all_none}
use Rattle.overlay_index.proofs.hidden.Hidden.copy.Goals as goal

pub loop-file-preserved : goal.loop-file-preserved
loop-file-preserved c = λ q.
    c.in_ok-put_copy.ensures q ∙ rw map-append (update_all_push (eq_by_cmp nat_cmp) (λ _. None) (get nat_cmp c.loop-file.bases)
    (map deref_pair c.loop-file.yielded) (c.in-Some.file.now, c.in-Some.base.now) q (c.loop-file.invariant q))

pub returns : goal.returns
returns c = λ other.
    let whole : map deref_pair c.loop-file.yielded ≡ c.self.inside.bases.entries = search (rules, iter_end) in
    let apart = IsDistinct-from_sorted nat_cmp (keys_of c.self.inside.bases.entries) c.len.ensures.ordered in
    rw (← c.self.view_is) (ap (λ found. unwrap_or found None)
    (c.loop-file.invariant other ∙ ap (λ l. update_all (eq_by_cmp nat_cmp) (λ _. None) l other) whole
    ∙ update_all_none (eq_by_cmp_equiv nat_cmp_total) (eq_by_cmp nat_cmp) (λ x y. refl) c.self.inside.bases.entries other apart))
