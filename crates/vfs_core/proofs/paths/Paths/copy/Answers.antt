use Rattle.vfs_core.proofs.Words.{◌≡◌, None, map, ap, ◌∙◌, rules, refl, unwrap_or, bytes_eq, deref_pair, nat_list_eq_equiv, map-append, update_all_push, lookup}
use Rattle.vfs_core.proofs.Words.{update_all, iter_end, update_all_none}
use Rattle.vfs_core.proofs.paths.Paths.copy.Goals as goal

pub loop-path-preserved : goal.loop-path-preserved
loop-path-preserved c = λ q.
    c.in_ok-insert.ensures.updates.0 q
    ∙ rw (c.in_ok-copy.ensures, map-append)
    (update_all_push bytes_eq (λ _. None) (λ k. lookup (bytes_eq k) c.loop-path.ids.entries) (map deref_pair c.loop-path.yielded)
    (c.in-Some.path.now, c.in-Some.id.now) q (c.loop-path.invariant q))

pub returns : goal.returns
returns c = λ path.
    let whole : map deref_pair c.loop-path.yielded ≡ c.self.inside.ids.entries = search (rules, iter_end) in
    rw (← c.self.view_is) (ap (λ found. unwrap_or found None) (c.loop-path.invariant path ∙ ap (λ es. update_all bytes_eq (λ _. None) es path) whole
    ∙ update_all_none nat_list_eq_equiv bytes_eq (λ x y. refl) c.self.inside.ids.entries path c.len.ensures.unique))
