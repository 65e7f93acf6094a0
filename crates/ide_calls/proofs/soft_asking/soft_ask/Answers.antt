use Rattle.ide_calls.proofs.MadeLemmas.{found_softly, is_replied}
use Rattle.ide_calls.proofs.soft_asking.soft_ask.Goals as goal

pub returns-in-Ok-clause-ok : goal.returns-in-Ok-clause-ok
returns-in-Ok-clause-ok g c =
    let told = c.in-Ok.ensures.ok in let found = found_softly _ _ _ _ c.soft.ensures.view told.3 told.1.1 in
    is_replied c.number-seat.result _ _ c.args.query.now _ c.number-seat.ensures found told.1.0

pub returns-in-Ok-clause-gave_way : goal.returns-in-Ok-clause-gave_way
returns-in-Ok-clause-gave_way g c = let told = c.in-Ok.ensures.ok in
    record { looks = told.0; owed = told.2; checked = told.3.checked; spent = c.in-Ok.ensures.spent }
