use Rattle.demo_runs.proofs.RunLemmas.{writes_apart_agree}
use Rattle.demo_runs.proofs.agree.runs_with_lanes_apart_agree.Goals as goal

pub returns : goal.returns
returns c = λ script told ended apart few fits. writes_apart_agree c.a_section_alone_is_serial.ensures script apart told few ended fits
