use Rattle.query_engine.proofs.LookLemmas.{looked_unseen, dumb, early, whole, lowest_unready, refl, le_refl, Finding, OutOfMemory}
use Rattle.query_engine.specs.declared.reached.Reached.{Reached}
use Rattle.query_engine.proofs.SearchLemmas.{rows_found, found_ahead}
use Rattle.query_engine.proofs.FoundLemmas.{met_may, dumb_met}
use Rattle.query_engine.proofs.inheritors.inheritors.Goals as goal

-- what was found stands ahead
pub level_rows-requires : goal.level_rows-requires
level_rows-requires g c = found_ahead c.args.state.now.world c.listings_are_lawful.ensures c.names_are_identifiers.ensures _ _ c.in_ok-reached.ensures.found

-- a file is unready
pub returns-in_err-ready-clause-replied : goal.returns-in_err-ready-clause-replied
returns-in_err-ready-clause-replied g c =
    dumb (dumb_met c.args.state.now.world c.args.name.now _ c.in_err-ready.ensures.dumb) (lowest_unready c.args.state.now.world)
    (λ file is. rw is refl) _ _ c.from_residual.result c.in_err-ready.ensures.dumb c.from_residual.ensures.1

-- the search ends early
pub returns-in_err-reached-clause-replied : goal.returns-in_err-reached-clause-replied
returns-in_err-reached-clause-replied g c =
    let smart = c.in_ok-ready.ensures.smart in
    early _ (met_may c.args.state.now.world c.args.name.now smart) Reached _ c.from_residual-in_err-reached.result (rw smart refl)
    c.in_err-reached.ensures.early c.in_err-reached.ensures.looked c.from_residual-in_err-reached.ensures.1

-- memory runs out for the rows
pub returns-in_err-rows-clause-replied : goal.returns-in_err-rows-clause-replied
returns-in_err-rows-clause-replied g c =
    let smart = c.in_ok-ready.ensures.smart in
    early _ (met_may c.args.state.now.world c.args.name.now smart) Finding OutOfMemory c.from_residual-in_err-rows.result (rw smart refl) tt
    (looked_unseen (le_refl _) c.in_ok-reached.ensures.looked) c.from_residual-in_err-rows.ensures.1

-- all rows are there
pub returns-clause-replied : goal.returns-clause-replied
returns-clause-replied g c =
    let smart = c.in_ok-ready.ensures.smart in
    let same = rows_found c.args.state.now.world c.args.name.now _ _ _ c.in_ok-reached.ensures.found c.in_ok-rows.ensures.rise c.in_ok-rows.ensures.same in
    whole (met_may c.args.state.now.world c.args.name.now smart) (rw (smart, same) refl) c.in_ok-reached.ensures.looked
