use Rattle.ide_calls.proofs.Words.{map, task_of_made}
use Rattle.ide_calls.proofs.SettleLemmas.{joined}
use Rattle.ide_calls.proofs.ahead.join_first.Goals as goal

pub returns : goal.returns
returns g c = joined (λ made. map task_of_made made.items) c.args.makings.now.items c.pop_front.new.self.items c.in_ok-pop_front.field-0 c.join.result
    c.in_ok-pop_front.ensures.items c.join.ensures
