use Rattle.action_lock.proofs.RuleLemmas.{rules}
use Rattle.action_lock.proofs.pass.Pass.read.Goals as goal

pub returns-in_err-enter_waiting : goal.returns-in_err-enter_waiting
returns-in_err-enter_waiting g c =
    ((search rules, λ w. search rules, search rules), record { refused = tt; same_reference = search rules; ok = search rules })
