-- From tokens to the forest of groups: which brackets are partners, which have none, and what stands in a group.
--
-- The forest lies flat: its nodes are the tokens but for comments and closing brackets, in order, and each opening
-- bracket tells how many of the nodes behind it stand in its group.
use Rattle.std.specs.Prelude.{ℕ, zero, suc, ◌-◌, Bool, false, not, ◌&&◌, ◌||◌, if◌then◌else◌, List, [], ◌∷◌, ◌++◌, length, fold, Option, Some, None}
use Rattle.java_tokens.specs.Token.{Token}
use Rattle.decl_parser.specs.declared.bracket.Bracket.{Bracket}
use Rattle.decl_parser.specs.declared.bracket.Bracket.TheVariants.{Brace}
use Rattle.decl_parser.specs.declared.role.Role.{Role}
use Rattle.decl_parser.specs.declared.role.Role.TheVariants.{Identifier, Record, Permits, Comment, Lone}
use Rattle.decl_parser.specs.Node.{Node, node_of, sized, in_role}
use Rattle.decl_parser.specs.declared.open_brackets.Open.{Open}
use Rattle.decl_parser.specs.Role.{same_bracket, same_role, opened_by, closed_by, role_of}

-- the node has this role
abbrev pub is : Role → Node → Bool
is role n = same_role role n.role

-- the node is an identifier; `record` and `permits` are some
abbrev pub is_identifier : Node → Bool
is_identifier n = is Identifier n || is Record n || is Permits n

-- A closing bracket finds its partner among the open ones, of which the innermost comes first: it is the innermost
-- open one of its kind, but `)` and `]` don't reach over an open brace.
abbrev pub finds : Bracket → List Open → Bool
finds kind [] = false
finds kind (o ∷ os) = same_bracket o.bracket kind || (not (same_bracket o.bracket Brace) && finds kind os)

-- the nodes with the one at a place changed
abbrev pub changed : (Node → Node) → ℕ → List Node → List Node
changed f place [] = []
changed f zero (n ∷ ns) = f n ∷ ns
changed f (suc place) (n ∷ ns) = n ∷ changed f place ns

-- the group at a place reaches to the last node
abbrev pub with_size : ℕ → List Node → List Node
with_size place nodes = changed (sized (length nodes - place - 1)) place nodes

-- the bracket at a place has no partner, and counts no more
abbrev pub without_bracket : ℕ → List Node → List Node
without_bracket place nodes = changed (in_role Lone) place nodes

-- how far the tokens were read: the nodes so far, and the brackets that are open, the innermost first
pub record Scan : Type 0 where
  pub nodes : List Node
  pub unclosed : List Open

-- A closing bracket closes the innermost open one of its kind. Those opened since stay without a partner.
unfoldable pub close : Bracket → List Node → List Open → Scan
close kind nodes [] = record { nodes = nodes; unclosed = [] }
close kind nodes (o ∷ os) =
    if same_bracket o.bracket kind then record { nodes = with_size o.place nodes; unclosed = os }
    else close kind (without_bracket o.place nodes) os

-- The brackets that are open at the end of the text have the end as their partner.
unfoldable pub close_rest : List Node → List Open → List Node
close_rest nodes [] = nodes
close_rest nodes (o ∷ os) = close_rest (with_size o.place nodes) os

-- a token that opens a bracket, that closes one, or does neither
abbrev pub stepped : Scan → Node → Option Bracket → Option Bracket → Scan
stepped s n (Some kind) closed =
    record { nodes = s.nodes ++ n ∷ []; unclosed = record { place = length s.nodes; bracket = kind } ∷ s.unclosed }
stepped s n None (Some kind) = if finds kind s.unclosed then close kind s.nodes s.unclosed else s
stepped s n None None = if is Comment n then s else record { nodes = s.nodes ++ n ∷ []; unclosed = s.unclosed }

-- One token more: an opening bracket is open from then on; a closing one closes its partner, or is passed over where
-- it has none; a comment is passed over.
unfoldable pub step : List ℕ → Scan → Token → Scan
step text s t =
    let n = node_of t (role_of text t) in
    stepped s n (opened_by n.role) (closed_by n.role)

-- all tokens were read
abbrev pub scan_of : List ℕ → List Token → Scan
scan_of text tokens = fold (step text) (record { nodes = []; unclosed = [] }) tokens

-- the forest of the groups of a text, from its tokens
unfoldable pub forest_of : List ℕ → List Token → List Node
forest_of text tokens = close_rest (scan_of text tokens).nodes (scan_of text tokens).unclosed
