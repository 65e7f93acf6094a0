use Rattle.ide_calls.proofs.Words.{◌∙◌, rules}
use Rattle.ide_calls.proofs.MadeLemmas.{looked_by}
use Rattle.ide_calls.proofs.first_read.first_read.Goals as goal

pub returns-clause-ok : goal.returns-clause-ok
returns-clause-ok g c =
    let read = c.in_ok-reading.ensures.ok in
    let h = looked_by _ _ _ _ read.3 c.leave.ensures.view read.4 c.share.ensures.stands.1 c.args.seat c.args.hint c.state.result.now.world
    c.found_in-found.result (c.state.ensures ∙ c.share.ensures.stands.0) c.found_in-found.ensures in
    search (rules, h)
