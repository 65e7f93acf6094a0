use Rattle.query_engine.proofs.Words.{length, refl, ap, sym, ◌∙◌, arith, rules, nil_from_length}
use Rattle.query_engine.proofs.LookLemmas.{first_among, rest_among, paces_none, paces_on, paces_stopped}
use Rattle.query_engine.proofs.search.ask_each.Goals as goal

pub loop-name-init : goal.loop-name-init
loop-name-init g c = record {
  can = c.requires.can;
  stays = g.met.W.Watch.stays_itself c.args.watch.now;
  each = λ asked' reached' h. rw c.into_iter-name-iterator.ensures.into_iter_gives.0 at h;
  paced = paces_none (λ other. refl);
  left = rw c.into_iter-name-iterator.ensures.into_iter_gives.0 (λ name is. is);
  long = search rules;
}

pub loop-name-preserved : goal.loop-name-preserved
loop-name-preserved g c =
    let now = c.ask_types.new.search in
    record {
      can = c.ask_types.ensures.again;
      stays = g.met.W.Watch.stays_on _ _ _ c.loop-name.invariant.stays c.ask_types.ensures.stays;
      each = λ asked' reached' h. c.loop-name.invariant.each asked' reached'
          (rw c.in-Some.ensures.steps.0 (now.asked, now.reached, rw c.name.ensures at c.in_ok-ask_types.ensures.asked, h));
      paced = paces_on g.met.W.Watch.stays_on c.loop-name.invariant.stays c.loop-name.invariant.paced
          (first_among c.args.names.items c.in-Some.ensures.steps.0 c.loop-name.invariant.left) (rw c.name.ensures at c.in_ok-ask_types.ensures.paced);
      left = rest_among c.args.names.items c.in-Some.ensures.steps.0 c.loop-name.invariant.left;
      long = omega (arith, c.loop-name.invariant.long, ap length c.in-Some.ensures.steps.0, c.in-Some.ensures.steps.1);
    }

pub returns-in_err-ask_types-clause-paced : goal.returns-in_err-ask_types-clause-paced
returns-in_err-ask_types-clause-paced g c =
    paces_stopped g.met.W.Watch.stays_on c.loop-name.invariant.stays c.loop-name.invariant.paced
    (first_among c.args.names.items c.in-Some.ensures.steps.0 c.loop-name.invariant.left) c.from_residual.result c.in_err-ask_types.ensures.early
    c.from_residual.ensures.1 (rw c.name.ensures at c.in_err-ask_types.ensures.paced)

pub returns-clause-each : goal.returns-clause-each
returns-clause-each g c =
    let was = c.loop-name.search in
    c.loop-name.invariant.each was.asked was.reached
    (rw (nil_from_length _ (sym c.loop-name.invariant.long ∙ c.in-None.ensures.steps.0)) (refl, refl))

pub returns-clause-paced : goal.returns-clause-paced
returns-clause-paced g c = c.loop-name.invariant.paced
