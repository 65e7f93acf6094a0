use Rattle.index_store.proofs.Words.{rules, bytes_fit}
use Rattle.index_store.proofs.FormatLemmas.{store_takes, store_again}
use Rattle.index_store.proofs.laws.reading_is_exact.Goals as goal

pub returns-clause-read : goal.returns-clause-read
returns-clause-read c = λ bytes rows fits none e. store_takes (search rules) bytes rows (bytes_fit bytes fits) none e

pub returns-clause-again : goal.returns-clause-again
returns-clause-again c = store_again (search rules)
