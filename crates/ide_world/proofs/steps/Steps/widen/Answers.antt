use Rattle.ide_world.proofs.AlikeLemmas.{widened_at}
use Rattle.ide_world.proofs.steps.Steps.widen.Goals as goal

pub loop-at-preserved : goal.loop-at-preserved
loop-at-preserved c = record {
  widened = widened_at _ _ _ _ _ _ _ _ c.loop-at-test.true c.loop-at.invariant.widened c.index_mut.ensures.value c.index.ensures c.deref.ensures.value
      c.in_ok-count.ensures c.widen_document.ensures.alike c.in_ok-widen_document.ensures.wide;
  gone = c.loop-at.invariant.gone;
  length = c.loop-at.invariant.length;
}
