use Rattle.stub_index.proofs.Words.{names_super, super_names, is_type}
use Rattle.stub_index.proofs.NamedLemmas.{found_values, by_supers}
use Rattle.stub_index.proofs.laws.types_are_found_by_their_supers.Goals as goal

pub returns : goal.returns
returns c = λ stubs key. found_values key super_names (names_super key) (λ s. by_supers key s (is_type s)) (c.sorting_keeps_the_rows_of_a_key.ensures key) stubs
