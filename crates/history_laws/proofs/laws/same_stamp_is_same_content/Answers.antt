use Rattle.history_laws.proofs.SoundLemmas.{same_stamp-fold}
use Rattle.history_laws.proofs.laws.same_stamp_is_same_content.Goals as goal

pub returns : goal.returns
returns c = same_stamp-fold
