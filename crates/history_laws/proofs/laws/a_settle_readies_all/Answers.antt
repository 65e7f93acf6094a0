use Rattle.history_laws.proofs.SettledLemmas.{settle_leaves}
use Rattle.history_laws.proofs.laws.a_settle_readies_all.Goals as goal

pub returns : goal.returns
returns c = record {
  smart = λ history seat line. (settle_leaves history seat line).smart;
  unready = λ history seat line. (settle_leaves history seat line).unready;
  full = λ history seat line. (settle_leaves history seat line).full;
  reason = λ history seat line. (settle_leaves history seat line).reason;
}
