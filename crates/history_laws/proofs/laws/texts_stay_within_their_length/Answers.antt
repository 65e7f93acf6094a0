use Rattle.history_laws.proofs.SoundLemmas.{fold_sound}
use Rattle.history_laws.proofs.laws.texts_stay_within_their_length.Goals as goal

pub returns : goal.returns
returns c = record {
  content = λ entries id file legal given e. (rw e at ((fold_sound (Unit {0}) entries legal (λ _. given)).0 id)).3 tt;
  text = λ entries id file document legal given e d. (rw (e, d) at ((fold_sound (Unit {0}) entries legal (λ _. given)).0 id)).4.0 tt;
  committed = λ entries id file document legal given e d. (rw (e, d) at ((fold_sound (Unit {0}) entries legal (λ _. given)).0 id)).4.1 tt;
}
