use Rattle.action_lock.proofs.SightLemmas.{sighted}
use Rattle.action_lock.proofs.laws.a_sighting_is_of_the_mark.Goals as goal

pub returns : goal.returns
returns g c = λ st m found m' step. sighted _ _ _ st m found m' step
