-- A store as it is seen: its entries, each above the one before it.
use Rattle.std.specs.Prelude.{Bool, List, [], ◌∷◌, if◌then◌else◌, Option, Some, None}
use Rattle.std.specs.List.{list_any}
use Rattle.std.specs.Ordering.{is_eq, match_ordering}
use Rattle.overlay_index.specs.Parts.{Parts, parts_of}
use Rattle.index_store.specs.Data.{StoreEntry, entry_cmp}

-- whether an entry is among some
abbrev pub has_entry : StoreEntry → List StoreEntry → Bool
has_entry e es = list_any (λ (x : StoreEntry). is_eq (entry_cmp e x)) es

-- entries with one more in its place; where it is there already they stay as they are
abbrev pub with_entry : StoreEntry → List StoreEntry → List StoreEntry
with_entry e [] = e ∷ []
with_entry e (x ∷ xs) = match_ordering (entry_cmp e x) (e ∷ x ∷ xs) (x ∷ xs) (x ∷ with_entry e xs)

-- the rows that a text of this kind has in the indexes, where it is among some entries
abbrev pub rows_for : StoreEntry → List StoreEntry → Option Parts
rows_for e es = if has_entry e es then Some (parts_of e.kind e.text) else None
