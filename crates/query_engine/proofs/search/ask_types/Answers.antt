use Rattle.query_engine.proofs.FoundLemmas.{namers_are, types_typed, length, refl, sym, ◌∙◌, not-true, not-false, types_of}
use Rattle.std.proofs.lemmas.Result.{on_ok_weaker}
use Rattle.query_engine.proofs.LookLemmas.{cost_more, asks_same, paces_none, paces_wanting, paces_met}
use Rattle.query_engine.proofs.search.ask_types.Goals as goal

pub returns-in_err-add-clause-paced : goal.returns-in_err-add-clause-paced
returns-in_err-add-clause-paced g c = paces_wanting c.from_residual.result c.from_residual.ensures.1

pub returns-then-branch-clause-asked : goal.returns-then-branch-clause-asked
returns-then-branch-clause-asked g c =
    let fresh = not-true _ (sym c.in_ok-add.ensures.fresh ∙ c.if-branch.true) in
    let found = c.super_rows-found.ensures.ready c.requires.smart ∙ namers_are c.args.name.now c.args.state.now.world in
    on_ok_weaker c.meet_each.result (λ met. record { asks = c.in_ok-add.ensures.asks; met = rw (fresh, ← found) met }) c.meet_each.ensures.reached

pub returns-then-branch-clause-paced : goal.returns-then-branch-clause-paced
returns-then-branch-clause-paced g c =
    let fresh = not-true _ (sym c.in_ok-add.ensures.fresh ∙ c.if-branch.true) in
    let found = c.super_rows-found.ensures.ready c.requires.smart ∙ namers_are c.args.name.now c.args.state.now.world in
    paces_met c.meet_each.result c.args.name.now (length c.super_rows-found.result) c.in_ok-add.ensures.asks
    (rw found (cost_more c.args.search.now.asked c.add.new.self c.args.name.now c.in_ok-add.ensures.asks fresh
    (types_of c.args.state.now.world) (types_typed c.args.state.now.world)))
    c.meet_each.ensures.met c.meet_each.ensures.looked

pub returns-else-branch-clause-asked : goal.returns-else-branch-clause-asked
returns-else-branch-clause-asked g c =
    record { asks = c.in_ok-add.ensures.asks; met = rw (not-false _ (sym c.in_ok-add.ensures.fresh ∙ c.if-branch.false)) refl }

pub returns-else-branch-clause-paced : goal.returns-else-branch-clause-paced
returns-else-branch-clause-paced g c =
    paces_none (asks_same c.args.search.now.asked c.add.new.self c.args.name.now c.in_ok-add.ensures.asks
    (not-false _ (sym c.in_ok-add.ensures.fresh ∙ c.if-branch.false)))
