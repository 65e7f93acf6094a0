use Prim.{search, grind}
use Rattle.std.proofs.Common.{arith, rules}
use Rattle.lock_bench.proofs.play.ours.Goals as goal

pub close-requires-clause-last : goal.close-requires-clause-last
close-requires-clause-last g c =
    let one = c.take.ensures.run 0 c.lane.result (search rules) in
    let two = c.take.ensures.run 1 c.lane.result (search rules) in
    let three = c.take.ensures.run 2 c.lane.result (search rules) in
    let four = c.take.ensures.run 3 c.lane.result (search rules) in
    grind (arith, one.1, two.1, three.1, four.1)
