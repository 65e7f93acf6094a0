use Rattle.history_laws.proofs.StampLemmas.{arith, empty_world, draws, counters-effects_of, counters-fold_from, later-fold}
use Rattle.history_laws.proofs.laws.counter_of_stamps_never_falls.Goals as goal

pub returns : goal.returns
returns c = record {
  drawn = λ world change. (draws world change).0;
  few = λ world changes. (counters-effects_of changes world).1;
  rises = λ earlier later legal. (later-fold earlier later legal).counter;
  bound = λ entries few. omega (arith, (counters-fold_from entries empty_world).1 few);
}
