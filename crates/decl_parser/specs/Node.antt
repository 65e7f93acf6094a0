-- The nodes of the forest of groups, as the rules see them.
use Rattle.std.specs.Prelude.{ℕ, List, take, drop}
use Rattle.java_tokens.specs.Token.{Token}
use Rattle.decl_parser.specs.declared.role.Role.{Role}

-- a node: where its token stands and how many characters it has, what it is to the rules, and how many of the nodes
-- behind it stand in its group
pub record Node : Type 0 where
  pub at : ℕ
  pub len : ℕ
  pub role : Role
  pub size : ℕ

-- the node of a token, with nothing in its group
abbrev pub node_of : Token → Role → Node
node_of t role = record { at = t.at; len = t.len; role = role; size = 0 }

-- the node as one with so many nodes in its group
abbrev pub sized : ℕ → Node → Node
sized size n = record { at = n.at; len = n.len; role = n.role; size = size }

-- the node as one with another role
abbrev pub in_role : Role → Node → Node
in_role role n = record { at = n.at; len = n.len; role = role; size = n.size }

-- the characters of a node
abbrev pub name_of : List ℕ → Node → List ℕ
name_of text n = take n.len (drop n.at text)
