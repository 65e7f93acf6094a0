use Rattle.ide_script.proofs.RunLemmas.{asks_one}
use Rattle.ide_script.proofs.store_file.read_store.Goals as goal

pub returns-in-Some-clause-asks : goal.returns-in-Some-clause-asks
returns-in-Some-clause-asks g c = rw c.in-Some.is (asks_one c.read_store_at.ensures.asks).first

pub returns-in-Some-clause-asks_some : goal.returns-in-Some-clause-asks_some
returns-in-Some-clause-asks_some g c = λ _. rw c.in-Some.is (asks_one c.read_store_at.ensures.asks)
