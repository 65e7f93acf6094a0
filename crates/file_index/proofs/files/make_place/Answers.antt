use Rattle.file_index.proofs.Words.{rules}
use Rattle.file_index.proofs.SlotLemmas.{widened}
use Rattle.file_index.proofs.files.make_place.Goals as goal

pub loop-preserved : goal.loop-preserved
loop-preserved g c = search (rules, widened 0 c.loop.slots.items)
