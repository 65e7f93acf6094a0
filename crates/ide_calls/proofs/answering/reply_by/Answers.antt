use Rattle.ide_calls.proofs.MadeLemmas.{through_stops}
use Rattle.ide_calls.proofs.answering.reply_by.Goals as goal

pub returns-in-Err-Cancelled-clause-polled : goal.returns-in-Err-Cancelled-clause-polled
returns-in-Err-Cancelled-clause-polled g c = let h = rw c.in-Err-Cancelled.field-0-is at c.in-Err-Cancelled.ensures.looked in (h.number, h.may, h.looked)
