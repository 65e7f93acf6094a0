use Rattle.ide_calls.proofs.Words.{rules, ◌∙◌, ap, View, Entry}
use Rattle.ide_calls.proofs.SettleLemmas.{still_ahead}
use Rattle.ide_calls.proofs.settling.find_lowest.Goals as goal

pub returns-clause-ahead : goal.returns-clause-ahead
returns-clause-ahead g c =
    let read = c.in_ok-reading.ensures.ok in
    let h = still_ahead c.a_task_stays_of_the_world.ensures _ _ _ _ _ c.state.result.now.world c.prepare_lowest-lowest.result
    read.4.seen (ap (λ (x : View Entry). x.seen) c.leave.ensures.view) (c.state.ensures ∙ c.share.ensures.stands.0)
    c.requires.ahead c.prepare_lowest-lowest.ensures.ahead in
    search (rules, h)
