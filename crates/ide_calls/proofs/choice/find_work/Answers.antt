use Rattle.ide_calls.proofs.Words.{◌≡◌, sym, ap, ◌∙◌, option_map, option_and_then, IfOk-weaker, World, task_with_id, first_unready_from, IsChoice, task_of_job}
use Rattle.ide_calls.proofs.StepLemmas.{hint_taken, hint_passed, next_chosen}
use Rattle.ide_calls.proofs.choice.find_work.Goals as goal

pub returns-in-Some : goal.returns-in-Some
returns-in-Some c =
    hint_taken c.args.state.now.world c.args.seat c.args.hint (task_of_job c.in-Some.found)
    (ap (option_map task_of_job) (sym c.in-Some.is) ∙ c.in_ok-found.ensures)

pub returns : goal.returns
returns c =
    let world : World = c.args.state.now.world in
    let next = c.first_unready_from.result in
    let found = hint_passed world c.args.seat c.args.hint c.in_ok-found.field-0 c.in_default.not-Some c.in_ok-found.ensures
    ∙ ap (first_unready_from world) (sym c.probe_in.ensures) ∙ sym c.first_unready_from.ensures.value in
    IfOk-weaker c.job_of-2.result (λ job. option_map task_of_job job ≡ option_and_then (task_with_id world) next) (IsChoice world c.args.seat c.args.hint)
    (λ job is. next_chosen world c.args.seat c.args.hint next job found c.first_unready_from.ensures.unready c.first_unready_from.ensures.none is)
    c.job_of-2.ensures
