use Rattle.std.proofs.Common.{ap}
use Rattle.std.specs.List.{flat_map}
use Rattle.workspace_paths.specs.Paths.{printed}
use Rattle.workspace_paths.proofs.PathLemmas.{decoded-encoded}
use Rattle.workspace_paths.proofs.laws.names_are_read_back.Goals as goal

pub returns : goal.returns
returns c = record { decoded = decoded-encoded; shown = λ name. ap (λ cs. flat_map printed cs) (decoded-encoded name) }
