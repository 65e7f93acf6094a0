use Rattle.action_lock.proofs.StepLemmas.{rules, counts_entry}
use Rattle.action_lock.proofs.lock.ActionLock.place.Goals as goal

pub fetch_add-requires : goal.fetch_add-requires
fetch_add-requires g c = let added = c.requires.added in let now = c.requires.writes in let hand = added.hand in
    (now.table, search rules, counts_entry _ _ _ g.met.H.Home.one_list _ _ _ _ hand.home added.entry added.own now.phase now.intent hand.hand hand.stands)
