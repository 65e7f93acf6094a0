use Rattle.std.proofs.Common.{rules}
use Rattle.index_workers.proofs.WorkLemmas.{same_on, none_taken, only_taken, not_yet, in_part, goes_on, ends}
use Rattle.index_workers.proofs.working.worker.Goals as goal

pub loop-turn-init : goal.loop-turn-init
loop-turn-init g c = record {
  rests = c.requires;
  same = search rules;
  hints = none_taken _;
  on = not_yet _ _ _ _ c.number-seat.ensures;
}

pub returns-in_err-step-clause-hints : goal.returns-in_err-step-clause-hints
returns-in_err-step-clause-hints g c = only_taken _ _ _ _ c.loop-turn.invariant.hints c.in_err-step.ensures.step.2

pub returns-in_err-step-clause-err : goal.returns-in_err-step-clause-err
returns-in_err-step-clause-err g c =
    let step = c.in_err-step.ensures in
    let h = in_part _ _ _ _ _ _ _ _ _ _ _ c.loop-turn.invariant.on step.step.2 step.pass.advances step.err in
    search (rules, h)

pub returns-in-Some-clause-hints : goal.returns-in-Some-clause-hints
returns-in-Some-clause-hints g c = only_taken _ _ _ _ c.loop-turn.invariant.hints c.in_ok-step.ensures.step.2

pub returns-in-Some-clause-ok : goal.returns-in-Some-clause-ok
returns-in-Some-clause-ok g c =
    let step = c.in_ok-step.ensures.step in
    rw c.taken-entries.ensures (ends _ _ _ _ _ _ _ _ _ _ _ _ _ c.loop-turn.invariant.on step.2 step.3 step.4 _ c.in-Some.ensures)

pub loop-turn-preserved : goal.loop-turn-preserved
loop-turn-preserved g c =
    let step = c.in_ok-step.ensures.step in
    record {
      rests = c.in_ok-step.ensures.pass.rests;
      same = same_on _ _ _ c.loop-turn.invariant.same c.in_ok-step.ensures.pass.same;
      hints = only_taken _ _ _ _ c.loop-turn.invariant.hints step.2;
      on = rw c.taken-entries.ensures (goes_on _ _ _ _ _ _ _ _ _ _ _ _ _ c.loop-turn.invariant.on step.2 step.3 step.4 c.in_default.ensures);
    }
