use Rattle.workspace_paths.proofs.PathLemmas.{encoded-same, path_of-same}
use Rattle.workspace_paths.proofs.laws.paths_tell_names_apart.Goals as goal

pub returns : goal.returns
returns c = record { encoded = encoded-same; paths = path_of-same }
