use Rattle.transcript_check.proofs.MisfitLemmas.{first_differs}
use Rattle.transcript_check.proofs.laws.a_line_is_the_first_to_differ.Goals as goal

pub returns : goal.returns
returns c = first_differs
