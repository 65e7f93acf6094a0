use Rattle.ide_calls.proofs.Words.{rules, ◌≡◌, ◌∙◌, Some, sym, IsOfWorld, task_of_job}
use Rattle.ide_calls.proofs.SettleLemmas.{goes_not, made_of_job}
use Rattle.ide_calls.proofs.StepLemmas.{has_task}
use Rattle.ide_calls.proofs.lowest.make_lowest.Goals as goal

pub returns-in-Some-2-clause-made : goal.returns-in-Some-2-clause-made
returns-in-Some-2-clause-made g c =
    let world = c.args.state.now.world in
    let id = c.args.id in
    let work : Some (task_of_job c.in-Some.job) ≡ _ = rw c.in-Some.is at c.in_ok-job.ensures.task in
    let of_file = has_task world id (task_of_job c.in-Some.job) work in
    let of_world : IsOfWorld world (task_of_job c.in-Some.job) = search rules in
    record {
      same_id = c.make_from.ensures.file ∙ of_file.1;
      same_stamp = c.make_from.ensures.stamp ∙ sym of_file.2;
      of_world = made_of_job world c.in-Some.job c.make_from.result c.make_from.ensures.file c.make_from.ensures.kind c.make_from.ensures.stamp
          c.make_from.ensures.text of_world;
    }

pub returns-in-Some-2-clause-ahead : goal.returns-in-Some-2-clause-ahead
returns-in-Some-2-clause-ahead g c = goes_not c.args.state.now.world c.args.ahead.now
