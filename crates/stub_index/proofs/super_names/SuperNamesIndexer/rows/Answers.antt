use Rattle.stub_index.proofs.Words.{names_super, super_names, is_type}
use Rattle.stub_index.specs.Named.{rows_by_name}
use Rattle.stub_index.proofs.NamedLemmas.{found_in_order, by_supers}
use Rattle.stub_index.proofs.super_names.SuperNamesIndexer.rows.Goals as goal

pub from_rows-requires : goal.from_rows-requires
from_rows-requires c = λ key. rw (c.in_ok-named_by_supers.ensures, c.as_slice.ensures.stubs)
    (found_in_order key super_names (names_super key) (λ s. by_supers key s (is_type s)) c.args.stubs.now c.as_slice.ensures.lawful)

pub returns : goal.returns
unfolding rows_by_name
returns c = rw (c.in_ok-named_by_supers.ensures, c.as_slice.ensures.stubs) at c.from_rows.ensures
