use Rattle.file_index.proofs.Words.{◌≡◌, [], ◌∷◌, None, map, refl, ap, ◌∙◌, rules, lookup, deref_pair, unwrap_or, map-append, update_all_push, iter_end}
use Rattle.file_index.proofs.Words.{update_all_none, has_id}
use Rattle.file_index.proofs.postings.copy_postings.Goals as goal

pub loop-key-preserved : goal.loop-key-preserved
loop-key-preserved g c = let eq = g.I.Key.PartialEq.eq in λ q.
    let so_far = map deref_pair c.loop-key.yielded in
    rw (map-append deref_pair c.loop-key.yielded ((c.in-Some.key, c.in-Some.ids) ∷ [])) (c.in_ok-copy_entry.ensures q
    ∙ update_all_push eq (λ _. None) (λ k. lookup (eq k) c.loop-key.files.entries) so_far (c.in-Some.key.now, c.in-Some.ids.now) q (c.loop-key.invariant q))

pub returns : goal.returns
returns g c = λ k j.
    let eq = g.I.Key.PartialEq.eq in
    let whole : map deref_pair c.loop-key.yielded ≡ c.postings.inside.files.entries = search (rules, iter_end) in
    rw (← c.postings.view_is) (ap (λ found. has_id j (unwrap_or found []))
    ((rw whole at (c.loop-key.invariant k)) ∙ update_all_none g.met.I.Key.Eq.laws eq (λ x y. refl) c.postings.inside.files.entries k c.len.ensures.unique))
