use Rattle.file_index.proofs.Words.{searched, non_decreasing_from_sorted}
use Rattle.file_index.proofs.ids.place_among.Goals as goal

pub returns : goal.returns
returns c = searched c.args.ids.now c.args.id c.binary_search.result c.binary_search.ensures.position
    (λ i j. non_decreasing_from_sorted c.args.ids.now c.requires i j 0)
