use Rattle.query_engine.proofs.FoundLemmas.{types_sorted, refl, ◌≡◌, [], length, sym, ◌∙◌, rules, eqb-true, nil_from_length, types_of, AskedEach}
use Rattle.std.specs.Vec.{vec_len}
use Rattle.query_engine.proofs.SearchLemmas.{before_first, before_next, found_all, names_among, all_asked}
use Rattle.query_engine.proofs.LookLemmas.{AskRefusal, Err, Result, looked_unseen, looked_wanting, paces_none, paces_on, paces_stopped, looks_few}
use Rattle.query_engine.proofs.LookLemmas.{looks_some, looks_all}
use Rattle.query_engine.specs.declared.reached.Reached.{Reached}
use Rattle.query_engine.proofs.search.search_types.Goals as goal

pub loop-level-init : goal.loop-level-init
loop-level-init g c = record {
  can = c.requires.can;
  stays = g.met.W.Watch.stays_itself c.args.watch.now;
  before = rw (c.in_ok-reached.ensures, c.new.ensures) (before_first (types_of c.args.state.now.world) c.args.name.now);
  paced = paces_none (λ other. rw c.new.ensures refl);
}

pub returns-then-is_empty-clause-found : goal.returns-then-is_empty-clause-found
returns-then-is_empty-clause-found g c =
    let same : vec_len c.take_next-names.result ≡ length c.take_next-names.result.items = search rules in
    let none : c.loop-level.search.reached.next ≡ [] =
    sym c.take_next-names.ensures.names ∙ nil_from_length _ (sym same ∙ eqb-true _ 0 (sym c.if-is_empty.ensures)) in
    rw c.take_next-names.ensures.rest (found_all (types_sorted c.offsets_rise.ensures c.args.state.now.world) (rw none at c.loop-level.invariant.before))

pub returns-then-is_empty-clause-looked : goal.returns-then-is_empty-clause-looked
returns-then-is_empty-clause-looked g c =
    let same : vec_len c.take_next-names.result ≡ length c.take_next-names.result.items = search rules in
    let none : c.loop-level.search.reached.next ≡ [] =
    sym c.take_next-names.ensures.names ∙ nil_from_length _ (sym same ∙ eqb-true _ 0 (sym c.if-is_empty.ensures)) in
    looks_all c.loop-level.invariant.paced (all_asked (rw none at c.loop-level.invariant.before))

pub returns-in-Err-clause-looked : goal.returns-in-Err-clause-looked
returns-in-Err-clause-looked g c =
    let stopped : Result Reached AskRefusal = Err c.in-Err.refusal in
    let paced = paces_stopped g.met.W.Watch.stays_on c.loop-level.invariant.stays c.loop-level.invariant.paced
    (rw c.take_next-names.ensures.names (names_among c.loop-level.invariant.before)) stopped c.in-Err.ensures.early refl c.in-Err.ensures.paced in
    looks_some paced stopped c.in-Err.ensures.early refl refl

pub returns-in_err-reached-clause-looked : goal.returns-in_err-reached-clause-looked
returns-in_err-reached-clause-looked g c =
    looked_wanting g.W.Watch.looks g.W.Watch.sightings g.W.Watch.stays _ c.from_residual.result _ c.from_residual.ensures.1

pub loop-level-preserved : goal.loop-level-preserved
loop-level-preserved g c =
    let was = c.loop-level.search in
    let each : AskedEach (types_of c.args.state.now.world) c.loop-level.level was.reached.next was.asked (record { seen = was.reached.seen; next = [] })
    c.ask_each.new.search.asked c.ask_each.new.search.reached =
    rw (c.take_next-names.ensures.rest, c.take_next-names.ensures.names) at c.in_default.ensures.each in
    record {
      can = c.ask_each.ensures.again;
      stays = g.met.W.Watch.stays_on _ _ _ c.loop-level.invariant.stays c.ask_each.ensures.stays;
      before = before_next c.loop-level.invariant.before (types_sorted c.offsets_rise.ensures c.args.state.now.world) each;
      paced = paces_on g.met.W.Watch.stays_on c.loop-level.invariant.stays c.loop-level.invariant.paced
          (rw c.take_next-names.ensures.names (names_among c.loop-level.invariant.before)) c.in_default.ensures.paced;
    }

pub returns-clause-looked : goal.returns-clause-looked
returns-clause-looked g c = looked_unseen (looks_few c.loop-level.invariant.paced) c.loop-level.invariant.paced.looked
