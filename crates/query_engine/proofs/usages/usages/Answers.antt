use Rattle.query_engine.proofs.FoundLemmas.{live_found, dumb_uses, uses_may, used_reply, length, filter, refl, le_refl, lowest_unready, masks_in, Finding}
use Rattle.query_engine.proofs.FoundLemmas.{OutOfMemory, PlaceRow, has_code}
use Rattle.query_engine.specs.declared.answer.RowList.{RowList}
use Rattle.query_engine.proofs.LookLemmas.{looked_unseen, dumb, early, whole}
use Rattle.query_engine.proofs.usages.usages.Goals as goal

-- the files in which the name is found are live
pub use_rows-requires-clause-live : goal.use_rows-requires-clause-live
use_rows-requires-clause-live g c = live_found (masks_in c.args.name.now) c.args.state.now.world c.word_rows.ensures.ready c.in_ok-ready.ensures.smart

-- a file is unready
pub returns-in_err-ready-clause-replied : goal.returns-in_err-ready-clause-replied
returns-in_err-ready-clause-replied g c =
    let world = c.args.state.now.world in
    dumb (dumb_uses world c.args.name.now _ c.in_err-ready.ensures.dumb) (lowest_unready world) (λ file is. rw is refl) c.args.watch.now _
    c.from_residual.result c.in_err-ready.ensures.dumb c.from_residual.ensures.1

-- the rows end early
pub returns-in_err-rows-clause-replied : goal.returns-in_err-rows-clause-replied
returns-in_err-rows-clause-replied g c =
    let law = c.masks_tell_uses.ensures in
    let smart = c.in_ok-ready.ensures.smart in
    early (length (filter has_code c.word_rows.result))
    (uses_may law.unused law.used c.args.state.now.world c.args.name.now c.word_rows.ensures.ready smart) (RowList PlaceRow) _
    c.from_residual-in_err-rows.result (rw smart refl) c.in_err-rows.ensures.early c.in_err-rows.ensures.looked c.from_residual-in_err-rows.ensures.1

-- memory runs out for the name
pub returns-in_err-copy-clause-replied : goal.returns-in_err-copy-clause-replied
returns-in_err-copy-clause-replied g c =
    let law = c.masks_tell_uses.ensures in
    let smart = c.in_ok-ready.ensures.smart in
    let looks = length (filter has_code c.word_rows.result) in
    early looks (uses_may law.unused law.used c.args.state.now.world c.args.name.now c.word_rows.ensures.ready smart) Finding OutOfMemory
    c.from_residual-in_err-copy.result (rw smart refl) tt (looked_unseen (le_refl looks) c.in_ok-rows.ensures.looked)
    c.from_residual-in_err-copy.ensures.1

-- all rows are there
pub returns-clause-replied : goal.returns-clause-replied
returns-clause-replied g c =
    let world = c.args.state.now.world in
    let name = c.args.name.now in
    let law = c.masks_tell_uses.ensures in
    let ready = c.word_rows.ensures.ready in
    let smart = c.in_ok-ready.ensures.smart in
    whole (uses_may law.unused law.used world name ready smart)
    (used_reply law.unused law.used world name ready smart c.in_ok-copy.ensures c.in_ok-rows.ensures.rows) c.in_ok-rows.ensures.looked
