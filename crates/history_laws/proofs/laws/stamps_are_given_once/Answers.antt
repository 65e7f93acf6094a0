use Rattle.history_laws.proofs.StampLemmas.{◌≡◌, refl, kept_after, later-fold}
use Rattle.history_laws.proofs.laws.stamps_are_given_once.Goals as goal

pub returns : goal.returns
returns c = record {
  drawn = λ world change id h. (kept_after (λ stamp. stamp ≡ world.next_stamp) world change id h refl).0;
  later = λ earlier later id legal. ((later-fold earlier later legal).kept id).0;
}
