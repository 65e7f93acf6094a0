-- How the documents stand at their places.
use Rattle.std.specs.Prelude.{◌≡◌, ◌≤◌, ◌^◌, None, length, slice_index_or}
use Rattle.document_buf.specs.DocsView.{DocsView, open_of}
use Rattle.document_buf.specs.declared.docs.Docs.TheInside.{Inside}

-- what contracts see of the documents
abbrev pub held_of : Inside → DocsView
held_of inside = record { places = inside.docs.items }

-- the number of open documents is kept, each id fits its type, and no document has the id 0
pub record IsHeld (inside : Inside) : Type 0 where
  pub counted : inside.open_docs ≡ open_of (held_of inside)
  pub few : length inside.docs.items ≤ 2 ^ 32
  pub unnamed : slice_index_or inside.docs.items 0 None ≡ None
