use Rattle.history_laws.proofs.SettleLemmas.{settled-over, settled-ends, settled-goes_on, settled-fewer}
use Rattle.history_laws.proofs.laws.a_settle_goes_by_the_lowest.Goals as goal

pub returns : goal.returns
returns c = record { over = settled-over; ends = settled-ends; goes_on = settled-goes_on; fewer = settled-fewer }
