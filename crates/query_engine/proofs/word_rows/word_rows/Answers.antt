use Rattle.query_engine.proofs.LookLemmas.{made_more, made_stopped, refl}
use Rattle.query_engine.proofs.FoundLemmas.{word_row_made, live_rest}
use Rattle.query_engine.proofs.word_rows.word_rows.Goals as goal

pub loop-file-preserved : goal.loop-file-preserved
loop-file-preserved g c =
    let added = rw (word_row_made c.args.state.now.world c.in-Some-path.ensures) at c.in_ok-add_word.ensures.added in
    record {
      can = c.add_word.ensures.again;
      stays = g.met.W.Watch.stays_on _ _ _ c.loop-file.invariant.stays c.add_word.ensures.stays;
      world = refl;
      rows = made_more c.in-Some.ensures.steps c.loop-file.invariant.rows added c.in_ok-add_word.ensures.looked;
      live = live_rest c.args.state.now.world c.in-Some.ensures.steps c.loop-file.invariant.live;
    }

pub returns-in_err-add_word-clause-looked : goal.returns-in_err-add_word-clause-looked
returns-in_err-add_word-clause-looked g c =
    let stop = c.in_err-add_word.ensures in
    made_stopped c.in-Some.ensures.steps c.loop-file.invariant.rows (Unit {0}) _
    c.from_residual.result _ g.met.W.Watch.stays_on c.loop-file.invariant.stays stop.early stop.looked c.from_residual.ensures.1
