use Rattle.ide_calls.proofs.SettleLemmas.{goes_not}
use Rattle.ide_calls.proofs.lowest.prepare_lowest.Goals as goal

pub returns-in_default-clause-ahead : goal.returns-in_default-clause-ahead
returns-in_default-clause-ahead g c = goes_not c.args.state.now.world c.args.ahead.now

pub returns-then-at-eq-MAX_ENTRIES-clause-ahead : goal.returns-then-at-eq-MAX_ENTRIES-clause-ahead
returns-then-at-eq-MAX_ENTRIES-clause-ahead g c = goes_not c.args.state.now.world c.args.ahead.now
