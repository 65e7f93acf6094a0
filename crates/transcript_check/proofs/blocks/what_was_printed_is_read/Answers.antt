use Rattle.transcript_check.proofs.CursorLemmas.{seat-read, file-read}
use Rattle.transcript_check.proofs.blocks.what_was_printed_is_read.Goals as goal

pub returns : goal.returns
returns c = record { seat = seat-read; file = file-read }
