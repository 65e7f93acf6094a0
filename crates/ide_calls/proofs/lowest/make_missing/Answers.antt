use Rattle.ide_calls.specs.Ahead.{HasTakenFirst}
use Rattle.ide_calls.proofs.Words.{subst}
use Rattle.ide_calls.proofs.SettleLemmas.{first_of_world}
use Rattle.ide_calls.proofs.lowest.make_missing.Goals as goal

pub returns-in-Some-clause-of_world : goal.returns-in-Some-clause-of_world
returns-in-Some-clause-of_world g c =
    let taken = subst (HasTakenFirst c.args.ahead.now c.take-first.new.self) c.in-Some.is c.take-first.ensures in
    first_of_world c.args.state.now.world c.args.ahead.now c.take-first.new.self c.in-Some.made taken c.requires.ahead
