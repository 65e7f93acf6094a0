use Rattle.list_laws.proofs.PrefixLemmas.{front_shorter}
use Rattle.action_lock.proofs.laws.all_see_one_history.Goals as goal

pub returns : goal.returns
returns g c = λ places s i j v w r at_v at_w short.
    front_shorter v.seen w.seen r.history (r.recorded.each i v at_v).seen (r.recorded.each j w at_w).seen short
