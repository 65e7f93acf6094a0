use Rattle.transcript_check.proofs.StepLemmas.{settle_next, settle_stops, settle_answered, fewer_unready, None, sym, ◌∙◌, IfOk-weaker}
use Rattle.transcript_check.proofs.alone.settle_so.Goals as goal

pub loop-alloc-init : goal.loop-alloc-init
loop-alloc-init c = λ final came gone. gone

pub returns-then-not-branch : goal.returns-then-not-branch
returns-then-not-branch c = c.loop-alloc.invariant c.take_next_so.new.replay None
    (settle_stops (sym c.settle_goes_on.ensures ∙ c.loop-alloc-test.true) c.if-not-branch.true c.in_ok-take_next_so.ensures)

pub loop-alloc-smaller : goal.loop-alloc-smaller
loop-alloc-smaller c = fewer_unready (sym c.settle_goes_on.ensures ∙ c.loop-alloc-test.true) c.if-not-branch.false c.in_ok-take_next_so.ensures

pub loop-alloc-preserved : goal.loop-alloc-preserved
loop-alloc-preserved c = λ final came rest. c.loop-alloc.invariant final came
    (settle_next (sym c.settle_goes_on.ensures ∙ c.loop-alloc-test.true) c.if-not-branch.false c.in_ok-take_next_so.ensures rest)

pub returns : goal.returns
returns c =
    IfOk-weaker c.is_answered_so.result _ _
    (λ told so. c.loop-alloc.invariant _ _ (settle_answered c.requires (sym c.settle_goes_on.ensures ∙ c.loop-alloc-test.false) so))
    c.is_answered_so.ensures
