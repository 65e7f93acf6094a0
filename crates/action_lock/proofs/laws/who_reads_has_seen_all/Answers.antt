use Rattle.action_lock.proofs.RuleLemmas.{◌≡◌}
use Rattle.action_lock.proofs.laws.who_reads_has_seen_all.Goals as goal

pub returns : goal.returns
returns g c = λ places s i j v w r at_v at_w reads.
    let whole : w.seen ≡ r.history = rw reads at (r.recorded.each j w at_w).entered in rw whole (r.recorded.each i v at_v).seen
