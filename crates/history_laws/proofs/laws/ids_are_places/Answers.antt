use Rattle.history_laws.proofs.StampLemmas.{rules, live_is_made, next_id-effect_of, kept_after, later-fold}
use Rattle.history_laws.proofs.laws.ids_are_places.Goals as goal

pub returns : goal.returns
returns c = search (rules, next_id-effect_of, later-fold, live_is_made, kept_after (λ stamp. Unit {0}))
