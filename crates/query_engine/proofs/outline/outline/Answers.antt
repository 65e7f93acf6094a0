use Rattle.query_engine.proofs.FoundLemmas.{id_live, text_there, listing_from}
use Rattle.query_engine.proofs.outline.outline.Goals as goal

pub unreachable-requires : goal.unreachable-requires
unreachable-requires g c = text_there _ c.in_default-shown.ensures (id_live c.args.state.now.world c.args.path.now c.in-Some.ensures)

pub file_rows-requires-clause-live : goal.file_rows-requires-clause-live
file_rows-requires-clause-live g c = id_live c.args.state.now.world c.args.path.now c.in-Some.ensures

pub file_rows-requires-clause-ahead : goal.file_rows-requires-clause-ahead
file_rows-requires-clause-ahead g c =
    listing_from c.names_are_identifiers.ensures c.args.state.now.world c.in-Some.id c.in-Some-shown.ensures c.as_slice.ensures.stubs c.as_slice.ensures.lawful
    c.in_ok-stubs.ensures
