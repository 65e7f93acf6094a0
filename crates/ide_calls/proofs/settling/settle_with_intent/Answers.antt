use Rattle.ide_calls.proofs.Words.{◌∙◌, Some, None, advances_on}
use Rattle.ide_calls.proofs.SettleLemmas.{smart_on, end_on, nothing_yet, turn_on, part_on}
use Rattle.write_history.specs.declared.refusal.Refusal.TheVariants as why
use Rattle.ide_calls.proofs.settling.settle_with_intent.Goals as goal

pub loop-preserved : goal.loop-preserved
loop-preserved g c =
    let before = c.loop.invariant in
    let made = c.take_lowest_in.ensures in
    let turn = rw c.in-Ok-Taken.field-0-is at c.in-Ok-Taken.ensures.ok in
    record {
      can = tt;
      ends = tt;
      pass = made.pass.0;
      same = record { table = made.pass.1.table ∙ before.same.table; seat = made.pass.1.seat ∙ before.same.seat };
      own = made.advances.number ∙ before.own;
      ahead = c.in-Ok-Taken.ensures.ahead;
      advances = advances_on _ _ _ before.advances made.advances;
      whole = λ x refused rest. before.whole x refused (turn_on c.args.seat c.args.line _ _ turn x refused rest);
      part = λ x rest. before.part x (part_on c.args.seat c.args.line _ _ turn x rest);
    }

pub returns-in-Ok-Smart-clause-ok : goal.returns-in-Ok-Smart-clause-ok
returns-in-Ok-Smart-clause-ok g c =
    let found = rw c.in-Ok-Smart.field-0-is at c.in-Ok-Smart.ensures.ok in
    let through = smart_on c.args.seat c.args.line c.in-Ok-Smart.at _ _ found in
    record { done = c.loop.invariant.whole _ None through.done; whole = through.whole; smart = through.smart }

pub returns-in-Ok-Full-clause-err : goal.returns-in-Ok-Full-clause-err
returns-in-Ok-Full-clause-err g c =
    let found = rw c.in-Ok-Full.field-0-is at c.in-Ok-Full.ensures.ok in
    let filled = end_on c.args.seat c.args.line c.in-Ok-Full.at _ _ found in
    record { done = c.loop.invariant.whole _ (Some why.HistoryFull) filled.done; whole = filled.whole; full = filled.full }

pub returns-in-Err-clause-err : goal.returns-in-Err-clause-err
returns-in-Err-clause-err g c = c.loop.invariant.part _ (nothing_yet c.args.seat c.args.line _ _ c.in-Err.ensures.err)

pub returns-in-Ok-Smart-clause-advances : goal.returns-in-Ok-Smart-clause-advances
returns-in-Ok-Smart-clause-advances g c = advances_on _ _ _ c.loop.invariant.advances c.take_lowest_in.ensures.advances

pub returns-in-Ok-Full-clause-advances : goal.returns-in-Ok-Full-clause-advances
returns-in-Ok-Full-clause-advances g c = advances_on _ _ _ c.loop.invariant.advances c.take_lowest_in.ensures.advances

pub returns-in-Err-clause-advances : goal.returns-in-Err-clause-advances
returns-in-Err-clause-advances g c = advances_on _ _ _ c.loop.invariant.advances c.take_lowest_in.ensures.advances
