use Rattle.ide_calls.proofs.Words.{rules, advances_on, view_of}
use Rattle.ide_calls.proofs.ChangeLemmas.{has_accepted, has_left, one_made, is_refused}
use Rattle.ide_calls.proofs.changing.change_with_intent.Goals as goal

pub returns-in-Ok-clause-accepted : goal.returns-in-Ok-clause-accepted
returns-in-Ok-clause-accepted g c =
    let planned = c.in_ok-planned.ensures.ok in
    has_accepted _ (view_of c.plan.new.pass) _ c.args.entry planned.read c.in-Ok.ensures.ok _ c.requires.own planned.is.makes.accepted planned.is.is_at
    c.in-Ok.ensures.legal c.in-Ok.ensures.advances

pub returns-in-Ok-clause-unready : goal.returns-in-Ok-clause-unready
returns-in-Ok-clause-unready g c =
    has_left _ (view_of c.plan.new.pass) _ c.args.entry c.in_ok-planned.ensures.ok.read c.in-Ok.ensures.ok _ c.in-Ok.ensures.unready

pub returns-in_err-planned-clause-refused : goal.returns-in_err-planned-clause-refused
returns-in_err-planned-clause-refused g c =
    let refused = is_refused c.args.entry.seat c.args.entry.line _ _ c.args.entry.changes _ c.requires.own c.in_err-planned.ensures.refused in
    search (rules, refused)

pub returns-in-Ok-clause-one : goal.returns-in-Ok-clause-one
returns-in-Ok-clause-one g c = one_made _ (view_of c.plan.new.pass) _ c.args.entry c.in_ok-planned.ensures.ok.read c.in-Ok.ensures.ok

pub returns-in-Ok-clause-advances : goal.returns-in-Ok-clause-advances
returns-in-Ok-clause-advances g c = advances_on _ _ _ c.in_ok-planned.ensures.ok.read.learned.advances c.in-Ok.ensures.advances
