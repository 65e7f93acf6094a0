use Rattle.property_index.proofs.RiseLemmas.{keys_of-rise}
use Rattle.property_index.proofs.laws.keys_stand_in_the_text.Goals as goal

pub returns : goal.returns
returns c = λ text. keys_of-rise text
