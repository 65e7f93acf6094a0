use Rattle.ide_script.proofs.RunLemmas.{[], ◌∷◌, refl, asks_one}
use Rattle.ide_script.proofs.check.judge.Goals as goal

pub returns-in-Err-Failed-clause-asks : goal.returns-in-Err-Failed-clause-asks
returns-in-Err-Failed-clause-asks g c = (asks_one c.read_file.ensures.asks).first

pub returns-in-Err-Failed-clause-asks_some : goal.returns-in-Err-Failed-clause-asks_some
returns-in-Err-Failed-clause-asks_some g c = λ _. asks_one c.read_file.ensures.asks

pub returns-in-Err-OutOfMemory-clause-asks : goal.returns-in-Err-OutOfMemory-clause-asks
returns-in-Err-OutOfMemory-clause-asks g c = (asks_one c.read_file.ensures.asks).first

pub returns-clause-asks : goal.returns-clause-asks
returns-clause-asks g c = c.trees_are_asked_in_turn.ensures.front _ _ _ (_ ∷ []) _ (_, c.read_file.ensures.asks, refl) c.verdict.ensures.asks

pub returns-clause-asks_some : goal.returns-clause-asks_some
returns-clause-asks_some g c = λ failed.
    c.trees_are_asked_in_turn.ensures.some _ _ _ (_ ∷ []) _ (_, c.read_file.ensures.asks, refl) (c.verdict.ensures.asks_some failed)
