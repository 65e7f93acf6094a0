use Rattle.transcripts.proofs.SectionLemmas.{run_serial}
use Rattle.transcripts.proofs.laws.a_run_alone_is_serial.Goals as goal

pub returns : goal.returns
returns c = run_serial
