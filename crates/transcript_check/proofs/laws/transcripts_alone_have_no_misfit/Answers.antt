use Rattle.transcript_check.proofs.MisfitLemmas.{verdict_sound, verdict_complete}
use Rattle.transcript_check.proofs.laws.transcripts_alone_have_no_misfit.Goals as goal

pub returns : goal.returns
returns c = record {
  sound = verdict_sound c.a_run_alone_is_serial.ensures;
  complete = verdict_complete c.transcripts_are_cut.ensures.cut c.checked_texts_are_those_of_a_run.ensures.complete;
}
