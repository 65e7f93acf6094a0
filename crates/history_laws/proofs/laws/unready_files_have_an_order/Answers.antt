use Rattle.history_laws.proofs.UnreadyLemmas.{lowest_is_first, lowest-Some, lowest-None, count-unready}
use Rattle.history_laws.proofs.laws.unready_files_have_an_order.Goals as goal

pub returns : goal.returns
returns c = record {
  first = λ world id others e. rw e at (lowest_is_first world);
  smart = λ world e. rw e at (lowest_is_first world);
  lowest = λ world id e. (lowest-Some world id e).0;
  before = λ world id other e. (lowest-Some world id e).1 other;
  none = λ world id e. lowest-None world e id;
  count = count-unready;
}
