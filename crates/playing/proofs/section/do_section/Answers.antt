use Rattle.playing.proofs.Words.{rules, arith, refl, advances_not, advances_on, ide_view}
use Rattle.playing.proofs.SectionLemmas.{section_begins, section_turn, section_over}
use Rattle.playing.proofs.section.do_section.Goals as goal

pub loop-line-init : goal.loop-line-init
loop-line-init g c = record {
  pass = record { rests = c.requires.pass; same = search rules; advances = advances_not (ide_view c.args.pass.now) };
  nothing = refl;
  under_way = rw c.reserve.ensures (section_begins c.args.beside c.args.seat c.args.lines.now c.args.loads.now (ide_view c.args.pass.now) c.args.records.now);
}

pub loop-line-preserved : goal.loop-line-preserved
loop-line-preserved g c =
    let before = c.loop-line.invariant in let done = c.in_ok-do_line.ensures in
    let same = c.passes_stay_the_same.ensures _ _ _ before.pass.same done.pass.same in
    let advances = advances_on _ _ _ before.pass.advances done.pass.advances in
    record {
      pass = record { rests = done.pass.rests; same = same; advances = advances };
      nothing = before.nothing;
      under_way = section_turn _ _ _ _ _ _ _ _ _ _ c.loop-line.line-index _ _ _ _ c.requires.seat c.loop-line-test.true c.line-item.is
          c.first_load-load.ensures c.later_loads-left.ensures before.pass.advances done.pass.advances before.under_way done.answered;
    }

pub returns-clause-done : goal.returns-clause-done
returns-clause-done g c = section_over _ _ _ _ _ _ _ _ c.loop-line.line-index _ (omega (arith, c.loop-line-test.false)) c.loop-line.invariant.under_way

pub returns-in_err-do_line-clause-pass : goal.returns-in_err-do_line-clause-pass
returns-in_err-do_line-clause-pass g c =
    let before = c.loop-line.invariant.pass in let after = c.in_err-do_line.ensures.pass in record {
      rests = after.rests;
      same = c.passes_stay_the_same.ensures _ _ _ before.same after.same;
      advances = advances_on _ _ _ before.advances after.advances;
    }
