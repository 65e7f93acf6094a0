use Rattle.transcript_check.proofs.MisfitLemmas.{stops_at_line, stops_beside, []}
use Rattle.transcript_check.proofs.laws.what_comes_before_a_stop_fits.Goals as goal

pub returns : goal.returns
returns c = record { line = stops_at_line; beside = λ sides cursors entries stop is. stops_beside sides [] cursors entries stop is }
