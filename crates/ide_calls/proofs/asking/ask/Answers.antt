use Rattle.ide_calls.proofs.Words.{rules, ◌∙◌}
use Rattle.ide_calls.proofs.MadeLemmas.{replied_by}
use Rattle.ide_calls.proofs.asking.ask.Goals as goal

pub returns-after-is_ok-clause-ok : goal.returns-after-is_ok-clause-ok
returns-after-is_ok-clause-ok g c =
    let read = c.in-Ok.ensures.ok in
    let h = replied_by _ _ _ _ read.3 c.leave.ensures.view read.4 c.share.ensures.stands.1 c.number-seat.result _ c.state.result.now.world
    c.reply_to_end-replied.result c.number-seat.ensures (c.state.ensures ∙ c.share.ensures.stands.0) c.reply_to_end-replied.ensures in
    search (rules, h)
