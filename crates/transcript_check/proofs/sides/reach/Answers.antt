use Rattle.transcript_check.proofs.SideLemmas.{begun, one_on, none_on, rules, ◌<◌, length, sym, length-drop, next_left}
use Rattle.transcript_check.proofs.sides.reach.Goals as goal

pub loop-place-init : goal.loop-place-init
loop-place-init c = begun c.new-taken.ensures c.in_ok-tell_all.ensures

pub returns-then-not-branch : goal.returns-then-not-branch
returns-then-not-branch c =
    let within : c.loop-place.place < length c.args.entries.now = search rules in
    none_on (next_left _ _ within c.index-entries-place.is) c.in-Some.ensures c.loop-place.invariant c.in_ok-seat_goes.ensures
    (sym (length-drop c.loop-place.place c.args.entries.now)) (search rules)

pub loop-place-preserved : goal.loop-place-preserved
loop-place-preserved c =
    let within : c.loop-place.place < length c.args.entries.now = search rules in
    one_on (next_left _ _ within c.index-entries-place.is) c.in-Some.ensures c.loop-place.invariant c.in_ok-seat_goes.ensures (search rules)
    c.in_ok-tell_all-2.ensures
