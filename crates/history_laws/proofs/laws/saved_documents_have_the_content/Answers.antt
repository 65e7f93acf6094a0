use Rattle.history_laws.proofs.SoundLemmas.{sound_file}
use Rattle.history_laws.proofs.laws.saved_documents_have_the_content.Goals as goal

pub returns : goal.returns
returns c = λ entries id file document legal e d. (rw d at (sound_file entries id file legal e).4).2
