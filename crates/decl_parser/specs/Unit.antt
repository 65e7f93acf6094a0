-- The units of a level and the items that they make.
use Rattle.std.specs.Prelude.{ℕ, zero, suc, if◌then◌else◌, List, [], ◌∷◌, ◌++◌, take}
use Rattle.decl_parser.specs.Node.{Node}
use Rattle.decl_parser.specs.declared.role.Role.TheVariants.{Semicolon, Equals, BraceGroup, Lone}
use Rattle.decl_parser.specs.Forest.{is}

-- a unit of a level: a token with nothing inside, or a group with the nodes inside
pub record Unit : Type 0 where
  pub node : Node
  pub inside : List Node

-- the units of some nodes, where the first of them, so many, stand inside the unit before; brackets without a partner
-- are taken out
unfoldable pub units_past : ℕ → List Node → List Unit
units_past skip [] = []
units_past (suc skip) (n ∷ ns) = units_past skip ns
units_past zero (n ∷ ns) =
    if is Lone n then units_past 0 ns else record { node = n; inside = take n.size ns } ∷ units_past n.size ns

-- the units of a level: its tokens and, each as one unit, its groups
abbrev pub units_of : List Node → List Unit
units_of nodes = units_past 0 nodes

-- an item: what stands in its header, and inside the brace group that ends it, if one does
pub record Item : Type 0 where
  pub header : List Node
  pub body : List Node

-- the item that the end of the level ends, if anything stands in it
abbrev pub last_item : List Node → List Item
last_item [] = []
last_item (n ∷ ns) = record { header = n ∷ ns; body = [] } ∷ []

-- The items of some units, where so much stands in the header of the first. The header goes up to the first `;`, brace
-- group or `=`, or to the end. A `;` ends the item there, a brace group is its body and ends it. After a `=` the item
-- goes on through the next `;`, whatever groups stand there.
unfoldable mutual
  pub items_from : List Node → List Unit → List Item
  items_from header [] = last_item header
  items_from header (u ∷ us) =
      if is Semicolon u.node then record { header = header; body = [] } ∷ items_from [] us
      else if is BraceGroup u.node then record { header = header; body = u.inside } ∷ items_from [] us
      else if is Equals u.node then record { header = header; body = [] } ∷ items_behind_value us
      else items_from (header ++ u.node ∷ []) us

  -- the items behind the one whose `=` was met
  pub items_behind_value : List Unit → List Item
  items_behind_value [] = []
  items_behind_value (u ∷ us) = if is Semicolon u.node then items_from [] us else items_behind_value us

-- the items of a level
abbrev pub items_of : List Unit → List Item
items_of us = items_from [] us

-- the units behind the first `;`
unfoldable pub behind_semicolon : List Unit → List Unit
behind_semicolon [] = []
behind_semicolon (u ∷ us) = if is Semicolon u.node then us else behind_semicolon us
