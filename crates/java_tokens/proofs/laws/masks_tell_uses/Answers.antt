use Rattle.java_tokens.proofs.PlaceLemmas.{places-unused, places-used}
use Rattle.java_tokens.proofs.laws.masks_tell_uses.Goals as goal

pub returns : goal.returns
returns c = record { unused = places-unused; used = places-used }
