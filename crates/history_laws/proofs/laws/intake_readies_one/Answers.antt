use Rattle.history_laws.proofs.UnreadyLemmas.{unready-intake}
use Rattle.history_laws.proofs.laws.intake_readies_one.Goals as goal

pub returns : goal.returns
returns c = unready-intake
