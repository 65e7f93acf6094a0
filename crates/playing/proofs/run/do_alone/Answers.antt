use Rattle.playing.proofs.Words.{on_ok_weaker}
use Rattle.playing.proofs.RoundLemmas.{done_alone}
use Rattle.playing.proofs.run.do_alone.Goals as goal

pub returns-clause-done : goal.returns-clause-done
returns-clause-done g c =
    let done = c.do_section-done in
    on_ok_weaker done.result (λ added. rw c.is_last.ensures.view (done_alone _ _ _ _ _ _ c.requires.alone done.ensures.pass.advances
    (rw c.is_last.ensures.view at c.is_last.ensures.knows) added)) done.ensures.done
