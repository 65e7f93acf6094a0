use Rattle.ide_world.proofs.Words.{rules, ◌∙◌, sym, Intake}
use Rattle.ide_world.proofs.GroupLemmas.{single}
use Rattle.ide_world.proofs.group.prepare_intake.Goals as goal

pub returns-in-Ok : goal.returns-in-Ok
returns-in-Ok c =
    let (ready, makes) = single _ (Intake c.args.made.file c.args.made.stamp) _ _ c.made_ready.result c.new-draft.ensures.base c.new-draft.ensures.steps
    (sym c.intake_refusal.ensures ∙ c.in_default.is) c.in-Ok.ensures c.made_ready.ensures.alike c.made_ready.ensures.wide in
    search (rules, ready, makes)
