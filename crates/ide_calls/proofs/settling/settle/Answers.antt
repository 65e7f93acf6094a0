use Rattle.ide_calls.proofs.SettleLemmas.{ok_within, err_within}
use Rattle.ide_calls.proofs.settling.settle.Goals as goal

pub returns-clause-ok : goal.returns-clause-ok
returns-clause-ok g c =
    let ended = c.settle_with_intent-answer in
    ok_within c.number-seat.result c.args.line _ _ _ _ c.number-seat.ensures c.intent.ensures.view c.release.ensures.view ended.result ended.ensures.ok

pub returns-clause-err : goal.returns-clause-err
returns-clause-err g c =
    let ended = c.settle_with_intent-answer in
    err_within c.number-seat.result c.args.line _ _ _ _ c.number-seat.ensures c.intent.ensures.view c.release.ensures.view ended.result ended.ensures.err
