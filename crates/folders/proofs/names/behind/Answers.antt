use Rattle.folders.proofs.NameLemmas.{behind-stripped}
use Rattle.folders.proofs.names.behind.Goals as goal

pub returns : goal.returns
returns c = behind-stripped _ _ _ c.strip_prefix.ensures.cases
