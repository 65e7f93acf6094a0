use Rattle.transcript_check.proofs.MisfitLemmas.{checked_sound, checked_complete}
use Rattle.transcript_check.proofs.laws.checked_texts_are_those_of_a_run.Goals as goal

pub returns : goal.returns
returns c = record { sound = checked_sound; complete = checked_complete c.a_section_alone_is_serial.ensures }
