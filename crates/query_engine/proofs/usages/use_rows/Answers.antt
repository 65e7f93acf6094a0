use Rattle.query_engine.proofs.FoundLemmas.{live_rest, used_more, refl, sym, ◌∙◌, has_code}
use Rattle.query_engine.proofs.usages.use_rows.Goals as goal

-- a file in whose code the name stands gives its rows, and is looked after
pub loop-file-preserved-in-Continue-branch-2 : goal.loop-file-preserved-in-Continue-branch-2
loop-file-preserved-in-Continue-branch-2 g c =
    let next = c.in-Some.ensures.steps in
    let stands = sym c.is_in.ensures ∙ c.if-is_in.true in
    record {
      can = c.look.ensures.again;
      stays = g.met.W.Watch.stays_on _ _ _ c.loop-file.invariant.stays c.look.ensures.stays;
      world = refl;
      used = used_more has_code next stands c.in_ok-add_uses.ensures c.loop-file.invariant.used c.in_ok-look.ensures.looked;
      live = live_rest c.args.state.now.world next c.loop-file.invariant.live;
    }

-- another file is passed by
pub loop-file-preserved : goal.loop-file-preserved
loop-file-preserved g c =
    let next = c.in-Some.ensures.steps in
    record {
      can = c.loop-file.invariant.can;
      stays = c.loop-file.invariant.stays;
      world = refl;
      used = rw (next, sym c.is_in.ensures ∙ c.if-is_in.false) at c.loop-file.invariant.used;
      live = live_rest c.args.state.now.world next c.loop-file.invariant.live;
    }
