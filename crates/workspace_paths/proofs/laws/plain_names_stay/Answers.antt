use Rattle.workspace_paths.proofs.PathLemmas.{encoded-plain}
use Rattle.workspace_paths.proofs.laws.plain_names_stay.Goals as goal

pub returns : goal.returns
returns c = encoded-plain
