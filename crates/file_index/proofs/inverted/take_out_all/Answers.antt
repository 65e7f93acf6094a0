use Rattle.file_index.proofs.Words.{eqb, refl, rows_in_file}
use Rattle.file_index.proofs.PlaceLemmas.{more_taken}
use Rattle.file_index.proofs.inverted.take_out_all.Goals.{then-not-has_key, else-not-has_key}
use Rattle.file_index.proofs.inverted.take_out_all.Goals as goal

pub loop-key-preserved : goal.loop-key-preserved
loop-key-preserved g c = λ k j.
    more_taken g.K.PartialEq.eq g.met.K.Eq.laws c.as_slice-key-items.result.now (rows_in_file c.args.file c.args.files.now) c.loop-key-item.result
    c.loop-key.key-index c.loop-key-test.true c.loop-key-item.is k _ _ (eqb j c.args.file) c.has_key.result _ (c.loop-key.invariant k j) c.has_key.ensures
    (elim c.if-not-has_key.branch [
      | then-not-has_key w ↦ rw (w.postings-is, w.if-not-has_key.true) (w.take_out.ensures.placed k j)
      | else-not-has_key w ↦ rw (w.postings-is, w.if-not-has_key.false) refl
    ])
