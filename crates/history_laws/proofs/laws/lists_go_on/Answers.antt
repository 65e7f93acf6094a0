use Rattle.history_laws.proofs.FoldLemmas.{effects_of-append, list_refusal-accepted, list_refusal-refused}
use Rattle.history_laws.proofs.laws.lists_go_on.Goals as goal

pub returns : goal.returns
returns c = record { effects = effects_of-append; accepted = list_refusal-accepted; refused = list_refusal-refused }
