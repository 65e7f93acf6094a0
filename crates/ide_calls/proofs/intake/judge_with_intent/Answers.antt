use Rattle.ide_calls.proofs.Words.{rules, ◌∙◌, task_of_made}
use Rattle.ide_calls.proofs.MadeLemmas.{read_once, work_stays}
use Rattle.ide_calls.proofs.intake.judge_with_intent.Goals as goal

pub judge-judged-requires : goal.judge-judged-requires
judge-judged-requires g c =
    let read = c.in-Ok.ensures.ok in
    work_stays c.a_task_stays_of_the_world.ensures _ _ c.args.made.file (task_of_made c.args.made) c.state.result.now.world
    read.4.seen c.share.ensures.stands.1 (c.state.ensures ∙ c.share.ensures.stands.0) c.requires.work

pub returns-in-Ok-clause-learned : goal.returns-in-Ok-clause-learned
returns-in-Ok-clause-learned g c =
    let read = c.in-Ok.ensures.ok in
    let once = read_once _ _ _ _ read.3 c.leave.ensures.view read.4 c.share.ensures.stands.1 in
    search (rules, once.learned)
