use Rattle.std.proofs.Common.{arith}
use Rattle.std.proofs.lemmas.Bool.Decides.{nat_tests}
use Rattle.std.proofs.lemmas.Option.{get_or_from_slice_get, slice_get_within}
use Rattle.ide_text.proofs.WalkLemmas.{one_more}
use Rattle.ide_text.proofs.line_walk.past_chars.Goals as goal
use Rattle.ide_text.proofs.line_walk.past_chars.Goals.{then-char_at-eq10, else-char_at-eq10}

pub loop-place-preserved : goal.loop-place-preserved
loop-place-preserved c =
    let text = c.args.text.now in let place = c.loop-place.place in let char = c.char_at.result in
    let more = one_more text place char (slice_get_within text place char c.char_at.ensures) (get_or_from_slice_get text place char 0 c.char_at.ensures) in
    elim c.if-char_at-eq10.branch [
      | then-char_at-eq10 w ↦ let feed = w.if-char_at-eq10.true in
          record { line = grind (arith, nat_tests, more.0, feed); column = grind (arith, nat_tests, more.1, feed); few = (omega arith, omega arith) }
      | else-char_at-eq10 w ↦ let other = w.if-char_at-eq10.false in
          record { line = grind (arith, nat_tests, more.0, other); column = grind (arith, nat_tests, more.1, other); few = (omega arith, omega arith) }
    ]
