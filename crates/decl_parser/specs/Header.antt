-- The header of an item: annotations are taken out, and what stands within angles is set aside.
use Rattle.std.specs.Prelude.{ℕ, zero, suc, ◌-◌, ◌&&◌, ◌==◌, if◌then◌else◌, List, [], ◌∷◌}
use Rattle.decl_parser.specs.Node.{Node, in_role}
use Rattle.decl_parser.specs.declared.role.Role.TheVariants.{At, Dot, Less, Greater, ParenGroup, Angled}
use Rattle.decl_parser.specs.Forest.{is, is_identifier}

-- how many nodes of an annotation follow its first identifier: any number of a dot and an identifier, and a paren
-- group, if one follows directly
unfoldable mutual
  pub annotation_rest : List Node → ℕ
  annotation_rest [] = 0
  annotation_rest (n ∷ ns) = if is ParenGroup n then 1 else if is Dot n then dotted_rest ns else 0

  -- the dot and what follows it, where that is an identifier
  pub dotted_rest : List Node → ℕ
  dotted_rest [] = 0
  dotted_rest (n ∷ ns) = if is_identifier n then suc (suc (annotation_rest ns)) else 0

-- how many nodes behind a node belong to the annotation that it begins: it does where it is a `@` and an identifier
-- follows
abbrev pub annotation_len : Node → List Node → ℕ
annotation_len n [] = 0
annotation_len n (i ∷ ns) = if is At n && is_identifier i then suc (annotation_rest ns) else 0

-- the nodes without annotations, where the first of them, so many, belong to the annotation before
unfoldable pub plain_past : ℕ → List Node → List Node
plain_past skip [] = []
plain_past (suc skip) (n ∷ ns) = plain_past skip ns
plain_past zero (n ∷ ns) =
    if annotation_len n ns == 0 then n ∷ plain_past 0 ns else plain_past (annotation_len n ns) ns

-- the nodes with their annotations taken out, in one pass from the left
abbrev pub without_annotations : List Node → List Node
without_annotations nodes = plain_past 0 nodes

-- the node as one that stands within angles
abbrev pub as_angled : Node → Node
as_angled n = in_role Angled n

-- Nodes within angles are set aside, so many angles being open before. A `>` with no open `<` isn't counted.
unfoldable pub angled_after : ℕ → List Node → List Node
angled_after depth [] = []
angled_after depth (n ∷ ns) =
    if is Less n then n ∷ angled_after (suc depth) ns
    else if is Greater n then n ∷ angled_after (depth - 1) ns
    else (if depth == 0 then n else as_angled n) ∷ angled_after depth ns

-- the header of an item as the rules read it
abbrev pub header_of : List Node → List Node
header_of nodes = angled_after 0 (without_annotations nodes)
