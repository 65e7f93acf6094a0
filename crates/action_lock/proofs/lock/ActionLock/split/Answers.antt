use Rattle.action_lock.proofs.RuleLemmas.{rules, ◌≡◌, arith, splits}
use Rattle.action_lock.proofs.lock.ActionLock.split.Goals as goal

pub split_seat-seat-requires : goal.split_seat-seat-requires
split_seat-seat-requires g c =
    let pass = c.args.pass.now in let leads = c.requires.leads in let numbered = pass.numbered in let first : pass.number ≡ 0 = cc in
    let drawn = pass.counts first in let few = pass.few in let room = c.if-pass-eq-NUMBERS.false in
    (c.requires.pass.out.at.table, search rules, splits g.H.Home.number_of g.H.Home.stands g.H.Home.share_stands _ _ _ leads (omega arith))
