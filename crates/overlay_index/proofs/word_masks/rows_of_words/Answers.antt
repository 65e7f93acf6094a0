use Rattle.overlay_index.proofs.word_masks.rows_of_words.Goals as goal

pub from_ordered-requires : goal.from_ordered-requires
from_ordered-requires c = rw c.into_vec.ensures.rows (c.rows_of_rising_keys_are_in_order.ensures c.args.words c.into_vec.ensures.in_order)
