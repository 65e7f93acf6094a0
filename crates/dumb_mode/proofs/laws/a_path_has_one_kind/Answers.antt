use Rattle.dumb_mode.proofs.KindLemmas.{arith, one_ending}
use Rattle.dumb_mode.proofs.laws.a_path_has_one_kind.Goals as goal

pub returns : goal.returns
returns c kind path = grind (arith, one_ending path)
