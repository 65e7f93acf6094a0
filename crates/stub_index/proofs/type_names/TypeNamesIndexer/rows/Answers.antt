use Rattle.stub_index.proofs.Words.{is_type_named, type_names, is_type}
use Rattle.stub_index.specs.Named.{rows_by_name}
use Rattle.stub_index.proofs.NamedLemmas.{found_in_order, one_name}
use Rattle.stub_index.proofs.type_names.TypeNamesIndexer.rows.Goals as goal

pub from_rows-requires : goal.from_rows-requires
from_rows-requires c = λ key. rw (c.in_ok-named_types.ensures, c.as_slice.ensures.stubs)
    (found_in_order key type_names (is_type_named key) (λ s. one_name key s.name s (is_type s)) c.args.stubs.now c.as_slice.ensures.lawful)

pub returns : goal.returns
unfolding rows_by_name
returns c = rw (c.in_ok-named_types.ensures, c.as_slice.ensures.stubs) at c.from_rows.ensures
