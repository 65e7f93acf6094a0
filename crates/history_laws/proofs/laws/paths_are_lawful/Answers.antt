use Rattle.history_laws.proofs.SoundLemmas.{live_lawful, named_lawful}
use Rattle.history_laws.proofs.laws.paths_are_lawful.Goals as goal

pub returns : goal.returns
returns c = record { named = named_lawful; live = live_lawful }
