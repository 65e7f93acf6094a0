use Rattle.overlay_index.proofs.word_masks.WordMasksIndexer.rows.Goals as goal

pub from_ordered-requires : goal.from_ordered-requires
from_ordered-requires c =
    rw (c.in_ok-copy_words.ensures, c.as_slice.ensures.rows)
    (c.rows_of_rising_keys_are_in_order.ensures c.args.words.now c.as_slice.ensures.in_order)
