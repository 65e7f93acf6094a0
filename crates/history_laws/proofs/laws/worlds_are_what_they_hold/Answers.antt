use Rattle.history_laws.proofs.CountLemmas.{same_world}
use Rattle.history_laws.proofs.laws.worlds_are_what_they_hold.Goals as goal

pub returns : goal.returns
returns c = same_world
