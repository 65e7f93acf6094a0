use Rattle.nonblocking_read.proofs.SoftLemmas.{rules, counted_none, spent_on, spent_all, only_not, only_on, last_on, same_meaning, ◌∙◌}
use Rattle.nonblocking_read.proofs.soft_read.soft.Goals as goal

pub loop-init : goal.loop-init
loop-init g c = search (rules, only_not, counted_none, c.requires)

pub returns-in-Ok-clause-pass : goal.returns-in-Ok-clause-pass
returns-in-Ok-clause-pass g c = (c.attempt.ensures.pass.0, search rules)

pub returns-in-Ok-clause-view : goal.returns-in-Ok-clause-view
returns-in-Ok-clause-view g c = only_on _ _ _ c.loop.invariant.view c.attempt.ensures.view

pub returns-in-Ok-clause-meaning : goal.returns-in-Ok-clause-meaning
returns-in-Ok-clause-meaning g c = same_meaning _ _ _ c.loop.invariant.meaning c.attempt.ensures.meaning

pub returns-in-Ok-clause-owed : goal.returns-in-Ok-clause-owed
returns-in-Ok-clause-owed g c = same_meaning _ _ _ c.loop.invariant.owed c.attempt.ensures.owed

pub returns-in-Ok-clause-ok : goal.returns-in-Ok-clause-ok
returns-in-Ok-clause-ok g c = let told = c.in-Ok.ensures.ok in (
  told.0,
  (c.loop.invariant.meaning c.in-Ok.out _).1 told.1,
  (c.loop.invariant.owed _ told.0).1 told.2,
  last_on _ _ _ _ _ c.loop.invariant.view told.3,
)

pub returns-in-Ok-clause-spent : goal.returns-in-Ok-clause-spent
returns-in-Ok-clause-spent g c = let before = c.loop.invariant in
    record { spent = _; fewer = before.less; risen = c.in-Ok.ensures.sights ∙ before.risen }

pub returns-in_err-spent-in-Err-clause-pass : goal.returns-in_err-spent-in-Err-clause-pass
returns-in_err-spent-in-Err-clause-pass g c = (c.attempt.ensures.pass.0, search rules)

pub returns-in_err-spent-in-Err-clause-view : goal.returns-in_err-spent-in-Err-clause-view
returns-in_err-spent-in-Err-clause-view g c = only_on _ _ _ c.loop.invariant.view c.attempt.ensures.view

pub returns-in_err-spent-in-Err-clause-meaning : goal.returns-in_err-spent-in-Err-clause-meaning
returns-in_err-spent-in-Err-clause-meaning g c = same_meaning _ _ _ c.loop.invariant.meaning c.attempt.ensures.meaning

pub returns-in_err-spent-in-Err-clause-owed : goal.returns-in_err-spent-in-Err-clause-owed
returns-in_err-spent-in-Err-clause-owed g c = same_meaning _ _ _ c.loop.invariant.owed c.attempt.ensures.owed

pub returns-in_err-spent-in-Err-clause-spent : goal.returns-in_err-spent-in-Err-clause-spent
returns-in_err-spent-in-Err-clause-spent g c = let before = c.loop.invariant in
    let told = spent_all _ _ _ _ _ before.less before.risen c.in-Err.miss _ c.in_err-spent-in-Err.ensures c.in-Err.ensures.sights in search (rules, told)

pub loop-preserved : goal.loop-preserved
loop-preserved g c = let before = c.loop.invariant in let attempt = c.attempt.ensures in
    let told = spent_on _ _ _ _ _ before.less before.risen c.in-Err.miss _ c.in_ok-spent-in-Err.ensures c.in-Err.ensures.sights in
    let view = only_on _ _ _ before.view attempt.view in let meaning = same_meaning _ _ _ before.meaning attempt.meaning in
    let owed = same_meaning _ _ _ before.owed attempt.owed in search (rules, told, view, meaning, owed)
