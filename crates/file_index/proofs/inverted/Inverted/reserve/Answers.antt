use Rattle.file_index.proofs.Words.{[], eqb, refl, arith, nat_tests, ◌∙◌}
use Rattle.std.proofs.lemmas.List.{take_all}
use Rattle.file_index.proofs.PlaceLemmas.{more_marked}
use Rattle.file_index.proofs.inverted.Inverted.reserve.Goals as goal

pub loop-key-preserved : goal.loop-key-preserved
loop-key-preserved g c = (
  c.mark.ensures.files ∙ c.loop-key.invariant.0,
  λ k j. c.in_ok-mark.ensures.marked k j ∙ more_marked g.I.Key.PartialEq.eq g.met.I.Key.Eq.laws c.as_slice-key-items.result.now []
      c.loop-key-item.result c.loop-key.key-index c.loop-key-test.true c.loop-key-item.is k _ _ (eqb j c.args.file) (c.loop-key.invariant.1 k j),
)

pub returns-in_err-mark-clause-keeps_room : goal.returns-in_err-mark-clause-keeps_room
returns-in_err-mark-clause-keeps_room g c = rw (← c.self.view_is) (λ file given has. record {
  known = rw (c.in_err-mark.ensures.files, c.loop-key.invariant.0) (c.make_known.ensures.stays file has.known);
  placed = λ key there. c.in_err-mark.ensures.unchanged key file ∙ (c.loop-key.invariant.1 key file ∙ rw (has.placed key there) refl);
})

pub returns-clause-room : goal.returns-clause-room
returns-clause-room g c = record {
  known = rw c.loop-key.invariant.0 c.in_ok-make_known.ensures.known;
  placed = λ key there.
      let whole = take_all c.loop-key.key-index c.as_slice-key-items.result.now c.loop-key-test.false ∙ c.as_slice-key-items.ensures.rows in
      grind (arith, nat_tests, c.loop-key.invariant.1 key c.args.file, whole, there);
}
