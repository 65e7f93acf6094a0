use Rattle.std.proofs.Common.{rules}
use Rattle.ide_script.proofs.over_tree.play_stored.Goals as goal

pub returns-in_err-store-clause-asks : goal.returns-in_err-store-clause-asks
returns-in_err-store-clause-asks g c = c.trees_are_asked_in_turn.ensures.front_more _ _ _ _ c.read_store.ensures.asks

pub returns-in_err-store-clause-asks_some : goal.returns-in_err-store-clause-asks_some
returns-in_err-store-clause-asks_some g c = λ err. c.trees_are_asked_in_turn.ensures.some_more _ _ _ _ (c.read_store.ensures.asks_some (search (rules, err)))

pub returns-clause-asks : goal.returns-clause-asks
returns-clause-asks g c = c.trees_are_asked_in_turn.ensures.front _ _ _ _ _ c.in_ok-store.ensures.asks_each c.play.ensures.asks

pub returns-clause-asks_some : goal.returns-clause-asks_some
returns-clause-asks_some g c = λ failed. c.trees_are_asked_in_turn.ensures.some _ _ _ _ _ c.in_ok-store.ensures.asks_each (c.play.ensures.asks_some failed)
