use Rattle.overlay_index.proofs.Words.{rules}
use Rattle.overlay_index.specs.Parts.{parts_of}
use Rattle.overlay_index.proofs.laws.a_key_finds_its_places.Goals as goal

pub returns : goal.returns
unfolding parts_of
returns c = search (rules, c.keys_are_found_by_their_characters.ensures)
