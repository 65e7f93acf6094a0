use Rattle.ide_calls.proofs.ChangeLemmas.{accepted_within, refused_within}
use Rattle.ide_calls.proofs.changing.change_group.Goals as goal

pub returns-clause-accepted : goal.returns-clause-accepted
returns-clause-accepted g c =
    let outcome = c.change_with_intent-outcome in
    accepted_within _ _ _ _ c.intent.ensures.view c.release.ensures.view outcome.ensures.advances
    c.args.line c.args.changes outcome.result outcome.ensures.accepted

pub returns-clause-refused : goal.returns-clause-refused
returns-clause-refused g c =
    let outcome = c.change_with_intent-outcome in
    refused_within _ _ _ _ c.intent.ensures.view c.release.ensures.view outcome.ensures.advances
    c.args.line c.args.changes outcome.result outcome.ensures.refused
