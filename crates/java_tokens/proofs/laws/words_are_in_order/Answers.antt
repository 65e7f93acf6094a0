use Rattle.java_tokens.proofs.MaskLemmas.{in_order-words_of}
use Rattle.java_tokens.proofs.laws.words_are_in_order.Goals as goal

pub returns : goal.returns
returns c = in_order-words_of
