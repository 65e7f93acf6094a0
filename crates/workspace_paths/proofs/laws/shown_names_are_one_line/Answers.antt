use Rattle.workspace_paths.proofs.PathLemmas.{plain-shown, scalars-shown}
use Rattle.workspace_paths.proofs.laws.shown_names_are_one_line.Goals as goal

pub returns : goal.returns
returns c = record { plain = plain-shown; scalars = scalars-shown }
