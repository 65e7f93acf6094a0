use Rattle.history_laws.proofs.SoundLemmas.{stamp_below, sound_file}
use Rattle.history_laws.proofs.laws.stamps_are_below_the_next.Goals as goal

pub returns : goal.returns
returns c = record { stamp = stamp_below; indexed = λ entries id file stamp legal e i. (rw i at (sound_file entries id file legal e)).2 }
