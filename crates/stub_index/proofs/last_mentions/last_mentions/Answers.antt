use Rattle.stub_index.proofs.Words.{◌≡◌, ◌∷◌, rules, btree_map_updates_str}
use Rattle.stub_index.proofs.MentionLemmas.{put_last}
use Rattle.stub_index.proofs.last_mentions.last_mentions.Goals as goal

pub loop-name-preserved : goal.loop-name-preserved
loop-name-preserved c = λ name.
    let rest = c.in-Some.rest.now in
    let split : c.loop-name.left.now ≡ c.in-Some.name.now ∷ rest = search rules in
    let found = btree_map_updates_str c.in-Some.name.now c.loop-name.found c.insert.new.self _ c.in_ok-insert.ensures.updates name in
    rw (found, put_last name c.in-Some.name.now rest _) (rw split at (c.loop-name.invariant name))
