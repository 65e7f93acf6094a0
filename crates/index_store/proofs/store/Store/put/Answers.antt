use Rattle.index_store.proofs.Words.{◌≡◌, length, ap, arith, length-map, entries_in}
use Rattle.index_store.proofs.HeldLemmas.{put_in}
use Rattle.index_store.proofs.store.Store.put.Goals as goal

pub invariant_of-self-2 : goal.invariant_of-self-2
invariant_of-self-2 c =
    let held = c.self.inside.held.entries in
    let count : length (entries_in held) ≡ length held = length-map held _ in
    let is = put_in (record { text = c.args.text; kind = c.args.kind }) c.args.stored c.requires.text c.requires.right held c.self.invariant.0 in
    let entries = c.in_ok-insert.ensures.entries in
    rw (entries, c.code_of.ensures)
    (is.held, rw (entries, c.code_of.ensures) at c.in_ok-insert.ensures.ordered, omega (arith, c.requires.few, count, is.few, ap length c.self.view_is))

pub returns-clause-ok : goal.returns-clause-ok
returns-clause-ok c =
    let is = put_in (record { text = c.args.text; kind = c.args.kind }) c.args.stored c.requires.text c.requires.right _ c.self.invariant.0 in
    rw (c.in_ok-insert.ensures.entries, c.code_of.ensures, ← c.self.view_is) is.entries
