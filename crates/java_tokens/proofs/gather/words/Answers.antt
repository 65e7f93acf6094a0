use Rattle.java_tokens.proofs.Common.{◌≡◌, IfOk-weaker, HasMasksOf, occurrences_of}
use Rattle.java_tokens.proofs.MaskLemmas.{has_masks-words_of, in_order-words_of}
use Rattle.java_tokens.proofs.gather.words.Goals as goal

-- the words of the text are in order
pub from_masks-requires : goal.from_masks-requires
from_masks-requires c = rw c.in_ok-masks_of.ensures (in_order-words_of c.args.text.now)

-- the words of the text have its masks
pub returns-clause-masks : goal.returns-clause-masks
returns-clause-masks c =
    IfOk-weaker c.from_masks.result (λ list. list ≡ c.in_ok-masks_of.field-0) (λ list. HasMasksOf list (occurrences_of c.args.text.now))
    (λ list same. rw (same, c.in_ok-masks_of.ensures) (has_masks-words_of c.args.text.now)) c.from_masks.ensures
