use Rattle.ide_world.proofs.Words.{rules}
use Rattle.ide_world.proofs.GroupLemmas.{single}
use Rattle.ide_world.proofs.group.prepare.Goals as goal

pub returns-in-Ok : goal.returns-in-Ok
returns-in-Ok c =
    let (ready, makes) = single _ c.args.change.now _ _ c.made_ready.result c.new-draft.ensures.base c.new-draft.ensures.steps
    c.in-Ok.ensures.accepted c.in-Ok.ensures.extended c.made_ready.ensures.alike c.made_ready.ensures.wide in
    search (rules, ready, makes)
