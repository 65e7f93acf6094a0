use Rattle.ide_calls.proofs.Words.{rules, ◌≡◌, ap, subst, is_want_of_memory, IsFirstAccepted}
use Rattle.write_history.specs.declared.refusal.Refusal.TheVariants.{OutOfMemory}
use Rattle.ide_calls.proofs.planning.plan_in.Goals as goal

pub returns-in-Err-clause-refused : goal.returns-in-Err-clause-refused
returns-in-Err-clause-refused c =
    let wants : c.in-Err.refusal.why ≡ OutOfMemory = search rules in
    subst (IsFirstAccepted c.args.state.now.world) c.as_slice.ensures.value (c.in-Err.ensures.refused.memory (ap is_want_of_memory wants))
