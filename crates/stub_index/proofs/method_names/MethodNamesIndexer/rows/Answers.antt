use Rattle.stub_index.proofs.Words.{is_method_named, method_names, is_method}
use Rattle.stub_index.specs.Named.{rows_by_name}
use Rattle.stub_index.proofs.NamedLemmas.{found_in_order, one_name}
use Rattle.stub_index.proofs.method_names.MethodNamesIndexer.rows.Goals as goal

pub from_rows-requires : goal.from_rows-requires
from_rows-requires c = λ key. rw (c.in_ok-named_methods.ensures, c.as_slice.ensures.stubs)
    (found_in_order key method_names (is_method_named key) (λ s. one_name key s.name s (is_method s)) c.args.stubs.now c.as_slice.ensures.lawful)

pub returns : goal.returns
unfolding rows_by_name
returns c = rw (c.in_ok-named_methods.ensures, c.as_slice.ensures.stubs) at c.from_rows.ensures
