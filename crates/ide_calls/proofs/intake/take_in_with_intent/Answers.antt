use Rattle.ide_calls.proofs.Words.{refl, advances_on, ◌∙◌}
use Rattle.ide_calls.proofs.StepLemmas.{answered_by_read, taken_in}
use Rattle.ide_calls.proofs.intake.take_in_with_intent.Goals as goal

pub returns-in-Gone-clause-ok : goal.returns-in-Gone-clause-ok
returns-in-Gone-clause-ok g c =
    let judged = rw c.in-Gone.is at c.in_ok-judge_with_intent.ensures.ok in
    answered_by_read c.args.seat c.args.made.file c.args.made.stamp _ _ _ judged.read (refl, refl, judged.judged_so)

pub returns-in-Stale-clause-ok : goal.returns-in-Stale-clause-ok
returns-in-Stale-clause-ok g c =
    let judged = rw c.in-Stale.is at c.in_ok-judge_with_intent.ensures.ok in
    answered_by_read c.args.seat c.args.made.file c.args.made.stamp _ _ _ judged.read (refl, refl, refl, judged.judged_so.0, judged.judged_so.1)

pub returns-in-Full-clause-ok : goal.returns-in-Full-clause-ok
returns-in-Full-clause-ok g c =
    let judged = rw c.in-Full.is at c.in_ok-judge_with_intent.ensures.ok in
    let full = judged.judged_so in
    answered_by_read c.args.seat c.args.made.file c.args.made.stamp _ _ _ judged.read (full.1 ∙ judged.entries, full.2, refl, full.0)

pub returns-in_ok-write_entry-in-Prepared-clause-ok : goal.returns-in_ok-write_entry-in-Prepared-clause-ok
returns-in_ok-write_entry-in-Prepared-clause-ok g c =
    taken_in c.args.seat c.args.made.file c.args.made.stamp c.in-Prepared.at c.in-Prepared.ready c.one-changes.result _ _ _
    (rw c.in-Prepared.is at c.in_ok-judge_with_intent.ensures.ok) c.one-changes.ensures c.write_entry.ensures.advances
    c.in_ok-write_entry-in-Prepared.ensures.ok c.write_entry.ensures.legal

pub returns-in_ok-write_entry-in-Prepared-clause-advances : goal.returns-in_ok-write_entry-in-Prepared-clause-advances
returns-in_ok-write_entry-in-Prepared-clause-advances g c =
    let judged = rw c.in-Prepared.is at c.in_ok-judge_with_intent.ensures.ok in
    advances_on _ _ _ judged.read.learned.advances c.write_entry.ensures.advances
