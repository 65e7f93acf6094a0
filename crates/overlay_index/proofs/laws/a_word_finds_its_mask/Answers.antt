use Rattle.overlay_index.proofs.Words.{rules}
use Rattle.overlay_index.specs.Parts.{parts_of}
use Rattle.overlay_index.proofs.FoundLemmas.{mask_found}
use Rattle.overlay_index.proofs.laws.a_word_finds_its_mask.Goals as goal

pub returns : goal.returns
unfolding parts_of
returns c = search (rules, mask_found, c.words_are_in_order.ensures)
