use Rattle.std.proofs.Common.{rules}
use Rattle.ide_text.proofs.WalkLemmas.{past_line, past_rest}
use Rattle.ide_text.proofs.line_walk.past_bytes.Goals as goal

pub loop-found-preserved : goal.loop-found-preserved
loop-found-preserved c =
    let past = past_line c.args.bytes.now c.loop-found.spot.at c.args.at c.in-Some.found c.loop-found.invariant.ahead c.requires.inside c.in-Some.ensures in
    search (rules, past.0, past.1, past.2)

pub returns : goal.returns
returns c =
    let rest = past_rest c.args.bytes.now c.loop-found.spot.at c.args.at c.loop-found.invariant.ahead c.requires.inside c.in_default.ensures in
    search (rules, rest.0, rest.1)
