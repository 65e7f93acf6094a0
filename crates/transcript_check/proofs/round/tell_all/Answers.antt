use Rattle.transcript_check.proofs.SideLemmas.{told_more, rules, ◌<◌, length, told_here}
use Rattle.transcript_check.proofs.round.tell_all.Goals as goal

pub loop-place-preserved : goal.loop-place-preserved
loop-place-preserved c = λ history is.
    let within : c.loop-place.place < length c.args.cursors.now = search rules in
    told_more (told_here c.args.beside history) c.args.cursors.now _ c.loop-place.place c.index-cursors-place.result _ within
    (c.loop-place.invariant history is) (c.in_ok-tell.ensures.is history is)
