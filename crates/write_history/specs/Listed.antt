-- The changes of an entry by how they lie in memory.
use Rattle.std.specs.Prelude.{List}
use Rattle.write_history.specs.declared.change.Change.{Change}
use Rattle.write_history.specs.declared.changes.Listed.{Listed}
use Rattle.write_history.specs.declared.changes.Listed.TheVariants.{Single, Several}

-- their list
abbrev pub changes_of : Listed → List Change
changes_of (Single change) = change
changes_of (Several changes) = changes.items
