use Rattle.property_index.proofs.Words.{ℕ, List, map, ap, keys_of}
use Rattle.property_index.specs.Keys.{key_rows}
use Rattle.property_index.proofs.laws.keys_are_found_by_their_characters.Goals as goal

pub returns : goal.returns
unfolding key_rows
returns c = λ text key. ap (map (λ (row : List ℕ × ℕ). row.1)) (c.sorting_keeps_the_rows_of_a_key.ensures key (keys_of text))
