use Rattle.ide_calls.proofs.Words.{ap, advances_on, View, Entry}
use Rattle.ide_calls.proofs.SettleLemmas.{taken_on, stays_behind}
use Rattle.ide_calls.proofs.settling.take_lowest_in.Goals as goal

pub returns-in_ok-write_entry-in-Prepared-clause-advances : goal.returns-in_ok-write_entry-in-Prepared-clause-advances
returns-in_ok-write_entry-in-Prepared-clause-advances g c =
    advances_on _ _ _ c.find_lowest.ensures.learned.advances c.write_entry.ensures.advances

pub returns-in_ok-write_entry-in-Prepared-clause-ok : goal.returns-in_ok-write_entry-in-Prepared-clause-ok
returns-in_ok-write_entry-in-Prepared-clause-ok g c =
    let found = rw c.in-Prepared.is at c.in_ok-at.ensures.ok in
    let written = c.in_ok-write_entry-in-Prepared.ensures.ok in
    taken_on c.args.seat c.args.line _ _ _ _ _ _ _ found c.one-changes.ensures written c.write_entry.ensures.advances c.write_entry.ensures.current

pub returns-in_ok-write_entry-in-Prepared-clause-ahead : goal.returns-in_ok-write_entry-in-Prepared-clause-ahead
returns-in_ok-write_entry-in-Prepared-clause-ahead g c =
    stays_behind _ _ _ _ (ap (λ (v : View Entry). v.seen) c.in_ok-write_entry-in-Prepared.ensures.ok) c.in_ok-at.ensures.ahead
