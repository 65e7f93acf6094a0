use Rattle.history_laws.proofs.SoundLemmas.{ap, refl, is_some, fold, id_at-live, live-id_at, IsApart-fold, none_at_free}
use Rattle.history_laws.proofs.laws.live_files_have_paths_of_their_own.Goals as goal

pub returns : goal.returns
returns c = record {
  apart = λ entries id other file second legal. IsApart-fold entries legal id other file second;
  id = λ entries id file legal. id_at-live (fold entries) id file (IsApart-fold entries legal);
  file = live-id_at;
  none = λ world id file free e. none_at_free world file.path id file (ap is_some free) e refl;
}
