use Rattle.index_workers.proofs.WorkLemmas.{whatever_said}
use Rattle.index_workers.proofs.laws.workers_may_have_any_gate.Goals as goal

pub returns : goal.returns
returns g c = λ gate. whatever_said (g.G.Gate.may_say gate)
