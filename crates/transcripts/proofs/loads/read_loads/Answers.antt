use Rattle.transcripts.proofs.Words.{arith, rules, subst, IsLoadOf}
use Rattle.transcripts.proofs.LoadsLemmas.{loads_end, loads_turn, has_asked_turn, has_asked_all, has_asked_front, has_asked_some, has_asked_so_far}
use Rattle.transcripts.proofs.loads.read_loads.Goals as goal

pub returns-clause-loads : goal.returns-clause-loads
returns-clause-loads g c = loads_end _ c.args.lines.now c.loop-line.loads.items c.loop-line.line-index (omega (arith, c.loop-line-test.false)) c.loop-line.invariant.loads

pub returns-clause-asks : goal.returns-clause-asks
returns-clause-asks g c = has_asked_so_far _ _ _ _ _ c.loop-line.invariant.asked

pub returns-clause-asks_each : goal.returns-clause-asks_each
returns-clause-asks_each g c = has_asked_all _ _ _ _ c.loop-line.line-index (omega (arith, c.loop-line-test.false)) c.loop-line.invariant.asked

pub returns-in_err-load-clause-asks : goal.returns-in_err-load-clause-asks
returns-in_err-load-clause-asks g c = has_asked_front _ c.trees_are_asked_in_turn.ensures _ _ _ _ c.line-item.result _ c.loop-line-test.true c.line-item.is c.loop-line.invariant.asked c.read_load.ensures.asks

pub returns-in_err-load-clause-asks_some : goal.returns-in_err-load-clause-asks_some
returns-in_err-load-clause-asks_some g c = λ is. has_asked_some _ c.trees_are_asked_in_turn.ensures _ _ _ _ c.line-item.result _ c.loop-line-test.true c.line-item.is c.loop-line.invariant.asked (c.read_load.ensures.asks_some (search rules))

pub returns-in_err-push-clause-asks : goal.returns-in_err-push-clause-asks
returns-in_err-push-clause-asks g c = has_asked_front _ c.trees_are_asked_in_turn.ensures _ _ _ _ c.line-item.result _ c.loop-line-test.true c.line-item.is c.loop-line.invariant.asked c.read_load.ensures.asks

pub loop-line-preserved : goal.loop-line-preserved
loop-line-preserved g c =
    let before = c.loop-line.invariant in
    record {
      files = search rules;
      quiet = search rules;
      asked = has_asked_turn _ c.trees_are_asked_in_turn.ensures _ _ _ _ c.line-item.result _ c.loop-line-test.true c.line-item.is before.asked c.in_ok-load.ensures.asks_each;
      loads = loads_turn _ c.args.lines.now c.line-item.result c.loop-line.loads.items c.push.new.self.items c.in_ok-load.load _ c.loop-line-test.true c.line-item.is (search rules)
          (subst (λ files. IsLoadOf files c.line-item.result.command c.in_ok-load.load) before.files c.in_ok-load.ensures.load) before.loads;
    }
