use Rattle.nonblocking_read.proofs.ReadLemmas.{rules, worked_only, worked_ok, worked_sees, worked_rests, refused_sees}
use Rattle.nonblocking_read.proofs.attempt.attempt.Goals as goal

pub returns-in-Ok-clause-pass : goal.returns-in-Ok-clause-pass
returns-in-Ok-clause-pass g c = let rests = worked_rests c.in-Ok.ensures.ok.3 c.work_in-made.ensures.view c.requires.no_intent in
    (record { out = search rules; no_intent = search (rules, rests.0); not_current = search (rules, rests.1) }, search rules)

pub returns-in-Ok-clause-view : goal.returns-in-Ok-clause-view
returns-in-Ok-clause-view g c = let read = c.in-Ok.ensures.ok in worked_only read.3 c.work_in-made.ensures.view (search rules) read.4

pub returns-in-Ok-clause-meaning : goal.returns-in-Ok-clause-meaning
returns-in-Ok-clause-meaning g c = c.work_in-made.ensures.meaning

pub returns-in-Ok-clause-owed : goal.returns-in-Ok-clause-owed
returns-in-Ok-clause-owed g c = c.work_in-made.ensures.owed

pub returns-in-Ok-clause-ok : goal.returns-in-Ok-clause-ok
returns-in-Ok-clause-ok g c = let made = c.work_in-made in
    worked_ok c.in-Ok.ensures.ok.3 made.ensures.view (search rules) (g.K.Work.fits c.args.work.now) (g.K.Work.owes c.args.work.now) made.result
    made.ensures.ok made.ensures.polled

pub returns-in-Ok-clause-sights : goal.returns-in-Ok-clause-sights
returns-in-Ok-clause-sights g c = let made = c.work_in-made in
    let sees = worked_sees c.in-Ok.ensures.ok.3 made.ensures.view made.result made.ensures.polled.2.sights in search (rules, sees)

pub returns-in-Err-clause-sights : goal.returns-in-Err-clause-sights
returns-in-Err-clause-sights g c = search (rules, refused_sees)
