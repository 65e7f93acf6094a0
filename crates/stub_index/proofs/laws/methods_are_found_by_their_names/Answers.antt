use Rattle.stub_index.proofs.Words.{is_method_named, method_names, is_method}
use Rattle.stub_index.proofs.NamedLemmas.{found_values, one_name}
use Rattle.stub_index.proofs.laws.methods_are_found_by_their_names.Goals as goal

pub returns : goal.returns
returns c = λ stubs key. found_values key method_names (is_method_named key) (λ s. one_name key s.name s (is_method s))
    (c.sorting_keeps_the_rows_of_a_key.ensures key) stubs
