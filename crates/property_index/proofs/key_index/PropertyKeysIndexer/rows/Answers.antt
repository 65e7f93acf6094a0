use Rattle.property_index.specs.Keys.{key_rows}
use Rattle.property_index.proofs.RiseLemmas.{keys_of-in_order}
use Rattle.property_index.proofs.key_index.PropertyKeysIndexer.rows.Goals as goal

pub from_rows-requires : goal.from_rows-requires
from_rows-requires c = λ key. rw c.in_ok-property_keys.ensures (keys_of-in_order key c.args.text.now)

pub returns : goal.returns
unfolding key_rows
returns c = rw c.in_ok-property_keys.ensures at c.from_rows.ensures
