use Rattle.transcript_check.proofs.StepLemmas.{next_line, other_line, no_record, all_lines_gone, got, ◌≤◌, length, arith, Bor, Loaded}
use Rattle.transcript_check.proofs.alone.come_alone.Goals as goal

pub loop-at-init : goal.loop-at-init
loop-at-init c = record { comes = λ final came gone. gone; within = omega arith }

pub returns-in_default : goal.returns-in_default
returns-in_default c =
    no_record c.loop-at.invariant.comes c.made.view_is c.loop-at.replay c.loop-at-test.true c.index-lines-at.is c.in_default.ensures.lookup.3

pub returns-then-not-branch : goal.returns-then-not-branch
returns-then-not-branch c =
    let load_is = got (λ (l : Bor Loaded). l.now) c.args.loads.now c.loop-at.at c.get-in-loop-at.result c.get-in-loop-at.ensures.lookup.3
    c.get-in-loop-at.ensures.lookup.1 in
    other_line c.loop-at.invariant.comes c.made.view_is c.line_so.new.made c.loop-at-test.true c.index-lines-at.is load_is c.in-Some.ensures.lookup.3.0
    c.in-Some.ensures.lookup.1 c.in_ok-line_so.ensures c.line_so.new.replay c.if-not-branch.true

pub loop-at-preserved : goal.loop-at-preserved
loop-at-preserved c =
    let load_is = got (λ (l : Bor Loaded). l.now) c.args.loads.now c.loop-at.at c.get-in-loop-at.result c.get-in-loop-at.ensures.lookup.3
    c.get-in-loop-at.ensures.lookup.1 in
    record {
      comes = next_line c.loop-at.invariant.comes c.made.view_is c.line_so.new.made c.loop-at-test.true c.index-lines-at.is load_is c.in-Some.ensures.lookup.3.0
          c.in-Some.ensures.lookup.1 c.in_ok-line_so.ensures c.if-not-branch.false;
      within = omega (arith, c.in-Some.ensures.lookup.3.0);
    }

pub slice_bounds-result-count : goal.slice_bounds-result-count
slice_bounds-result-count c =
    let past : length c.args.lines.now ≤ c.loop-at.at = c.loop-at-test.false in
    let within : c.loop-at.at ≤ length c.args.records.now = c.loop-at.invariant.within in
    omega arith

pub returns : goal.returns
returns c = all_lines_gone c.loop-at.invariant.comes c.made-2.view_is c.loop-at-test.false c.loop-at.auto.at-end
