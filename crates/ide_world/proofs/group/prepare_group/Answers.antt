use Rattle.ide_world.proofs.Words.{arith, rules}
use Rattle.ide_world.proofs.GroupLemmas.{refused_here, turn_at, whole_list}
use Rattle.ide_world.proofs.group.prepare_group.Goals as goal

pub loop-index-preserved : goal.loop-index-preserved
loop-index-preserved c =
    let held = c.loop-index.invariant in
    let (so_far, edits, first) = turn_at _ _ _ c.index-changes-index.result _ _ c.loop-index-test.true c.index-changes-index.is
    held.so_far held.edits held.first c.in_default.ensures.accepted c.in_default.ensures.extended in
    record { so_far = so_far; edits = edits; first = λ some. first }

pub returns-in-Err-clause-refused : goal.returns-in-Err-clause-refused
returns-in-Err-clause-refused c =
    let held = c.loop-index.invariant in
    refused_here _ _ c.loop-index.index _ c.index-changes-index.result _ c.in-Err.why c.extend.result c.loop-index-test.true c.index-changes-index.is
    held.so_far held.first c.in-Err.ensures.refused c.extend.ensures.first c.in-Err.is (omega arith)

pub returns-in-Ok : goal.returns-in-Ok
returns-in-Ok c =
    let (ready, makes) = whole_list _ _ _ _ c.in-Ok.ready c.requires.few.some (omega (arith, c.loop-index-test.false))
    c.loop-index.invariant.so_far c.made_ready.ensures.draft c.in-Ok.ensures.alike c.in-Ok.ensures.wide in
    search (rules, ready, makes)
