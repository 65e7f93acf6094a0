use Rattle.transcripts.proofs.Words.{◌++◌, refl}
use Rattle.transcripts.proofs.SectionLemmas.{section_serial}
use Rattle.transcripts.proofs.laws.a_section_alone_is_serial.Goals as goal

pub returns : goal.returns
returns c = λ seat low high lines loads earlier records start own begins fits.
    section_serial (start ++ own) seat lines loads low high earlier records start own refl begins fits
