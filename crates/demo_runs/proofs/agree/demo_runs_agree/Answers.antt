use Rattle.demo_runs.proofs.ScriptLemmas.{demo_writes_apart}
use Rattle.demo_runs.proofs.agree.demo_runs_agree.Goals as goal

pub returns : goal.returns
returns c = λ seed files edits told ended some few short few_told fits.
    let count = c.demos_have_their_commands.ensures in
    let apart = demo_writes_apart count.creates count.edits seed files edits some few short in
    c.runs_with_lanes_apart_agree.ensures _ told ended apart few_told fits
