use Rattle.file_index.proofs.Words.{◌≤◌, length, ap, arith, nat_cmp}
use Rattle.file_index.proofs.IdLemmas.{parts_rise, goes_into_tail}
use Rattle.file_index.proofs.ids.Ids.place_of.Goals as goal

pub place_among-requires : goal.place_among-requires
place_among-requires c = rw (c.split_at.ensures.back, c.as_slice.ensures)
    (parts_rise nat_cmp c.saturating_sub.result c.self.inside.ids.items c.self.invariant.0).1

pub place_among-requires-in-Err-eq0 : goal.place_among-requires-in-Err-eq0
place_among-requires-in-Err-eq0 c = rw (c.split_at.ensures.front, c.as_slice.ensures)
    (parts_rise nat_cmp c.saturating_sub.result c.self.inside.ids.items c.self.invariant.0).0

pub returns-in-Err : goal.returns-in-Err
returns-in-Err c =
    let inside : c.saturating_sub.result ≤ length c.self.inside.ids.items = omega (arith, c.split_at.ensures.back_len, ap length c.as_slice.ensures) in
    let gap = rw (c.split_at.ensures.back, c.as_slice.ensures) at c.in-Err.ensures in
    rw (c.split_at.ensures.front_len, ← c.self.view_is) (goes_into_tail _ _ c.args.id _ c.self.invariant.0 inside (omega (arith, c.in-Err.at-test.1)) gap)
