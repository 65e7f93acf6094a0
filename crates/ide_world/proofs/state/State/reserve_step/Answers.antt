use Rattle.ide_world.proofs.Words.{rules}
use Rattle.ide_world.proofs.WorldLemmas.{kept_same}
use Rattle.ide_world.proofs.state.State.reserve_step.Goals as goal

pub invariant_of-self-in_err-reserve_document : goal.invariant_of-self-in_err-reserve_document
invariant_of-self-in_err-reserve_document c = kept_same c.self.inside _ c.self.invariant (search rules)

pub invariant_of-self-in_err-reserve_index : goal.invariant_of-self-in_err-reserve_index
invariant_of-self-in_err-reserve_index c = kept_same c.self.inside _ c.self.invariant (search rules)

pub invariant_of-self-2 : goal.invariant_of-self-2
invariant_of-self-2 c = kept_same c.self.inside _ c.self.invariant (search rules)

pub returns-in_err-reserve_index-clause-keeps : goal.returns-in_err-reserve_index-clause-keeps
returns-in_err-reserve_index-clause-keeps c = rw (← c.self.view_is) (assumption c)

pub returns-clause-keeps : goal.returns-clause-keeps
returns-clause-keeps c = rw (← c.self.view_is) (assumption c)
