use Rattle.java_tokens.proofs.Common.{◌≡◌, append-nil, sym, ◌∙◌, places_of}
use Rattle.java_tokens.proofs.PlaceLemmas.{places-rise}
use Rattle.java_tokens.proofs.name_places.places.Goals as goal

-- no token is left, so the places in the list are all
pub returns-clause-rising : goal.returns-clause-rising
returns-clause-rising c =
    let all : places_of c.args.name.now c.args.text.now ≡ c.loop-token.list.items =
    sym c.loop-token.invariant.so_far ∙ rw c.in_default.ensures.none (append-nil _) in
    rw (← all) (places-rise c.args.name.now c.args.text.now)
