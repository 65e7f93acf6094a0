-- From tokens to stubs: which part of the nodes each stage has, the others being left out; that the nodes of a text rise, as each part does; what the rules
-- find in a header that rises; lists of stubs of which each may follow the one before, as a level lists; and levels without types.
use Rattle.decl_parser.proofs.Words.{AllByRecursion, Angled, AreTokensFrom, At, Bool, IsInside, IsLawfulAfter, IsLawfulList, IsLawfulName, IsLawfulStub, List}
use Rattle.decl_parser.proofs.Words.{Lone, MayFollow, Node, None, Other, Role, Token, [], append-nil, arith, characters_of, constant_stub, drop, false}
use Rattle.decl_parser.proofs.Words.{first_identifier, flat_map, fold, in_role, is, is_comment, is_identifier_token, items_of, length, length-map, list_any}
use Rattle.decl_parser.proofs.Words.{map, max_chars, max_depth, name_of, names, node_of, not, prefix_len, refl, role-identifier, role_of, scan_of, suc}
use Rattle.decl_parser.proofs.Words.{supers_of, take, tokens_of, true, units_of, without_annotations, ℕ, ◌*◌, ◌++◌, ◌+◌, ◌-◌, ◌∙◌, ◌∷◌, ◌≡◌, ◌≤◌}
use Rattle.std.proofs.Common.{All, AllPairs, Contains, IfSome, Option, Some, ap, append_assoc, encode_utf8, encode_utf8_all, filter, get_or, inl, inr}
use Rattle.std.proofs.Common.{length-append, length-drop, length-take, nat_le, option_to_list, rules, set, zero, ⊎_elim, if◌then◌else◌, ◌&&◌, ◌<◌, ◌≢◌, ◌⊎◌}
use Rattle.std.proofs.lemmas.Bool.{cond_both}
use Rattle.std.proofs.lemmas.Bool.Decides.{nat_tests}
use Rattle.std.proofs.lemmas.List.Elements.{All-from_recursion, All-map, Contains-get_or, recursion_from_All}
use Rattle.std.proofs.lemmas.List.Kept.{AllPairs-cons}
use Rattle.std.proofs.lemmas.Str.{len_utf8_bounds, length-encode}
use Rattle.java_tokens.specs.Chars.{is_white_space}
use Rattle.stub_tree.specs.Stub.{code_of, is_type}
use Rattle.stub_tree.specs.declared.stub.Stub.{Stub}
use Rattle.stub_tree.specs.declared.stub_kind.StubKind.{StubKind}
use Rattle.stub_tree.specs.declared.stub_kind.StubKind.TheVariants.{Annotation, Class as ClassKind, Constant, Constructor, Method}
use Rattle.decl_parser.specs.Forest.{Scan, changed, close, close_rest, forest_of, is_identifier, step, stepped, with_size, without_bracket}
use Rattle.decl_parser.specs.Header.{angled_after, annotation_len, header_of, plain_past}
use Rattle.decl_parser.specs.Listing.{IsIdentifierOf, IsNamedIn, declared_stubs, is_enum, item_stubs, level_stubs, listing_of, stub_of}
use Rattle.decl_parser.specs.Rule.{Declaration, DeclaresNoType, constant_of, constants_after, declaration_of, field_after, is_named, may_precede_constructor}
use Rattle.decl_parser.specs.Role.{same_role}
use Rattle.decl_parser.specs.Rule.{begins_record, member_of}
use Rattle.decl_parser.specs.Rule.{method_after, named_type, supers_after, type_after, type_kind}
use Rattle.decl_parser.specs.Unit.{Item, Unit as UnitOf, behind_semicolon, items_behind_value, items_from, units_past}
use Rattle.decl_parser.specs.declared.bracket.Bracket.{Bracket}
use Rattle.decl_parser.specs.declared.declaration.Holder.{Holder}
use Rattle.decl_parser.specs.declared.open_brackets.Open.{Open}
use Rattle.decl_parser.specs.declared.role.Role.TheVariants.{BraceGroup, Class, Comma, Dot, Enum, Equals, Interface, Record, Semicolon}

-- what holds of both truth values
by_bool : (b : Bool) (P : Bool → Type 0) → P true → P false → P b
by_bool true P p q = p
by_bool false P p q = q

-- what holds of each of two lists, holds of each of both
pub all-append : {A : Type 0} (P : A → Type 0) (xs ys : List A) → AllByRecursion P xs → AllByRecursion P ys → AllByRecursion P (xs ++ ys)
all-append P [] ys p q = q
all-append P (x ∷ xs) ys p q = (p.0, all-append P xs ys p.1 q)

-- a role stays, or becomes that of a node that counts no more
abbrev pub Keeps : Role → Role → Type 0
Keeps p r = (p ≡ r) ⊎ (p ≡ Angled) ⊎ (p ≡ Lone)

-- some of the nodes, in their order, each with its role or one that counts no more, and with any size
pub data IsPart : List Node → List Node → Type 0 where
  ends : IsPart [] []
  left_out : {n : Node} {ms ns : List Node} → IsPart ms ns → IsPart ms (n ∷ ns)
  again : {n : Node} {role : Role} {size : ℕ} {ms ns : List Node} → Keeps role n.role → IsPart ms ns
      → IsPart (record { at = n.at; len = n.len; role = role; size = size } ∷ ms) (n ∷ ns)

-- a node as it is
pub kept : {n : Node} {ms ns : List Node} → IsPart ms ns → IsPart (n ∷ ms) (n ∷ ns)
kept p = again (inl refl) p

-- none of the nodes
pub no_part : (ns : List Node) → IsPart [] ns
no_part [] = ends
no_part (n ∷ ns) = left_out (no_part ns)

-- all of them
pub whole_part : (ns : List Node) → IsPart ns ns
whole_part [] = ends
whole_part (n ∷ ns) = kept (whole_part ns)

-- parts of two lists, joined
pub part-append : {ks ms ls ns : List Node} → IsPart ks ms → IsPart ls ns → IsPart (ks ++ ls) (ms ++ ns)
part-append ends q = q
part-append (left_out p) q = left_out (part-append p q)
part-append (again k p) q = again k (part-append p q)

-- a part of a part
pub part-trans : {ls ms ns : List Node} → IsPart ls ms → IsPart ms ns → IsPart ls ns
part-trans p ends = p
part-trans p (left_out q) = left_out (part-trans p q)
part-trans (left_out p) (again k q) = left_out (part-trans p q)
part-trans (again j p) (again k q) = again (grind (arith, j, k)) (part-trans p q)

-- a part of what stands behind some nodes
pub part-behind : (ms : List Node) {ls ns : List Node} → IsPart ls ns → IsPart ls (ms ++ ns)
part-behind ms p = part-append (no_part ms) p

-- the nodes with one that is changed
pub changed-part : (f : Node → Node) → ((n : Node) (ns : List Node) → IsPart (f n ∷ ns) (n ∷ ns)) → (place : ℕ) (ns : List Node)
    → IsPart (changed f place ns) ns
changed-part f keeps place [] = ends
changed-part f keeps zero (n ∷ ns) = keeps n ns
changed-part f keeps (suc place) (n ∷ ns) = kept (changed-part f keeps place ns)

-- the nodes without annotations
plain-part : (skip : ℕ) (ns : List Node) → IsPart (plain_past skip ns) ns
unfolding plain_past
plain-part (suc skip) (n ∷ ns) = left_out (plain-part skip ns)
plain-part zero (n ∷ ns) = grind (arith, kept {n = n} (plain-part 0 ns), left_out {n = n} (plain-part (annotation_len n ns) ns))
plain-part skip [] = ends

-- nodes within angles, set aside
angled-part : (depth : ℕ) (ns : List Node) → IsPart (angled_after depth ns) ns
unfolding angled_after
angled-part depth [] = ends
angled-part depth (n ∷ ns) =
    let with_node = λ (depth : ℕ). kept {n = n} (angled-part depth ns) in
    let aside = again {n = n} {role = Angled} {size = n.size} (inr (inl refl)) (angled-part depth ns) in
    grind (arith, with_node (suc depth), with_node (depth - 1), with_node depth, aside)

-- the header of an item, as the rules read it
pub header-part : (ns : List Node) → IsPart (header_of ns) ns
header-part ns = part-trans (angled-part 0 (without_annotations ns)) (plain-part 0 ns)

-- the nodes of some units, each before those inside it
abbrev pub nodes_of : List UnitOf → List Node
nodes_of [] = []
nodes_of (u ∷ us) = u.node ∷ (u.inside ++ nodes_of us)

-- the nodes of some items, each header before its body
abbrev pub item_nodes : List Item → List Node
item_nodes [] = []
item_nodes (i ∷ is) = i.header ++ (i.body ++ item_nodes is)

-- the units of some nodes, behind those of the unit before
pub units-part : (skip : ℕ) (ns : List Node) → IsPart (take skip ns ++ nodes_of (units_past skip ns)) ns
unfolding units_past
units-part (suc skip) (n ∷ ns) = kept (units-part skip ns)
units-part zero (n ∷ ns) = grind (arith, left_out {n = n} (units-part 0 ns), kept {n = n} (units-part n.size ns))
units-part zero [] = ends
units-part (suc skip) [] = ends

mutual
  unfolding items_from items_behind_value

  -- the items of some units, where the header of the first has a part of what stands before them
  pub items-part : {header front : List Node} → IsPart header front → (us : List UnitOf)
      → IsPart (item_nodes (items_from header us)) (front ++ nodes_of us)
  items-part {header = []} p [] = part-append p ends
  items-part {header = n ∷ ns} p [] = part-append p ends
  items-part {header} {front} p (u ∷ us) =
      let ended = part-append p (part-behind (u.node ∷ u.inside) (items-part ends us)) in
      let has_body = part-append p (left_out {n = u.node} (part-append (whole_part u.inside) (items-part ends us))) in
      let has_value = part-append p (part-behind (u.node ∷ u.inside) (behind-part us)) in
      let goes_on = items-part (part-append p (kept {n = u.node} (no_part u.inside))) us in
      let goal : List Item → Type 0 = λ is. IsPart (item_nodes is) (front ++ nodes_of (u ∷ us)) in
      cond_both (is Semicolon u.node) _ _ goal (λ e. ended) (λ e.
      cond_both (is BraceGroup u.node) _ _ goal (λ e. has_body) (λ e.
      cond_both (is Equals u.node) _ _ goal (λ e. has_value) (λ e. rw append_assoc at goes_on)))

  -- and those behind a `=`
  behind-part : (us : List UnitOf) → IsPart (item_nodes (items_behind_value us)) (nodes_of us)
  behind-part [] = ends
  behind-part (u ∷ us) =
      cond_both (is Semicolon u.node) _ _ (λ is. IsPart (item_nodes is) (nodes_of (u ∷ us)))
      (λ e. part-behind (u.node ∷ u.inside) (items-part ends us)) (λ e. part-behind (u.node ∷ u.inside) (behind-part us))

-- the node is an identifier
abbrev pub IsNamed : Node → Type 0
IsNamed n = is_identifier n ≡ true

-- the first of some nodes that are a part of others, if it is an identifier
first-part : (ms : List Node) {ns : List Node} → IsPart ms ns → AllByRecursion IsNamed (first_identifier ms) × IsPart (first_identifier ms) ns
first-part [] p = (tt, p)
first-part (m ∷ ms) {ns} p = grind (arith, part-trans (kept {n = m} (no_part ms)) p, no_part ns)

-- the constants of an enum, before the units behind the first `;`, where a piece has a part of what stands before the units
pub constants-part : {piece front : List Node} → IsPart piece front → (us : List UnitOf)
    → AllByRecursion IsNamed (constants_after piece us) × IsPart (constants_after piece us ++ nodes_of (behind_semicolon us)) (front ++ nodes_of us)
unfolding constants_after behind_semicolon
constants-part {piece} p [] =
    let constant = first-part (without_annotations piece) (part-trans (plain-part 0 piece) p) in (constant.0, part-append constant.1 ends)
constants-part {piece} {front} p (u ∷ us) =
    let constant = first-part (without_annotations piece) (part-trans (plain-part 0 piece) p) in
    let others = constants-part ends us in
    let ended = part-append constant.1 (part-behind (u.node ∷ u.inside) (whole_part (nodes_of us))) in
    let cut = rw (← append_assoc (constant_of piece) _ _) at (part-append constant.1 (part-behind (u.node ∷ u.inside) others.1)) in
    let goes_on = constants-part (part-append p (kept {n = u.node} (no_part u.inside))) us in
    let Fits : List Node → List UnitOf → Type 0 =
    λ names behind. AllByRecursion IsNamed names × IsPart (names ++ nodes_of behind) (front ++ nodes_of (u ∷ us)) in
    let joined = constant_of piece ++ constants_after [] us in
    let more = if is Comma u.node then joined else constants_after (piece ++ u.node ∷ []) us in
    by_bool (is Semicolon u.node) (λ b. Fits (if b then constant_of piece else more) (if b then us else behind_semicolon us)) (constant.0, ended)
    (cond_both (is Comma u.node) _ _ (λ names. Fits names (behind_semicolon us)) (λ e. (all-append IsNamed _ _ constant.0 others.0, cut))
    (λ e. (goes_on.0, rw append_assoc at goes_on.1)))

-- what a walk passes over may be left out
pub past-skip : {A : Type 0} (walk : ℕ → List Node → A) → ((skip : ℕ) (n : Node) (ns : List Node) → walk (suc skip) (n ∷ ns) ≡ walk skip ns)
    → ((skip : ℕ) → walk skip [] ≡ walk 0 []) → (skip : ℕ) (ns : List Node) → walk skip ns ≡ walk 0 (drop skip ns)
past-skip walk more end (suc skip) (n ∷ ns) = more skip n ns ∙ past-skip walk more end skip ns
past-skip walk more end zero ns = refl
past-skip walk more end skip [] = end skip

-- an annotation is left out
pub plain_past-annotation : (n : Node) (ns : List Node) → annotation_len n ns ≢ 0
    → without_annotations (n ∷ ns) ≡ without_annotations (drop (annotation_len n ns) ns)
unfolding plain_past
plain_past-annotation n ns some = grind (arith, nat_tests, past-skip plain_past (λ skip n ns. refl) (λ skip. refl) (annotation_len n ns) ns)

-- where no node is a `@`, all stay
pub without_annotations-none : (ns : List Node) → list_any (is At) ns ≡ false → without_annotations ns ≡ ns
unfolding plain_past
without_annotations-none [] none = refl
without_annotations-none (n ∷ ns) none = grind (arith, without_annotations-none ns)

-- a node that is written over is changed, and behind the last one there is nothing to change
pub changed-at : (f : Node → Node) (nodes : List Node) (place : ℕ) → ((n : Node) → n ≡ get_or nodes place n → set nodes place (f n) ≡ changed f place nodes)
    × (length nodes ≤ place → nodes ≡ changed f place nodes)
changed-at f [] place = ((λ n e. refl), (λ beyond. refl))
changed-at f (m ∷ ms) zero = ((λ n e. ap (λ (k : Node). f k ∷ ms) e), (λ beyond. absurd (omega arith)))
changed-at f (m ∷ ms) (suc place) =
    let rest = changed-at f ms place in ((λ n e. ap (λ ns. m ∷ ns) (rest.0 n e)), (λ beyond. ap (λ ns. m ∷ ns) (rest.1 (omega arith))))

-- a comment changes nothing, so the tokens may be read without them
pub fold-comments : (text : List ℕ) (s : Scan) (ts : List Token) → fold (step text) s (filter (λ t. not (is_comment t)) ts) ≡ fold (step text) s ts
unfolding step
fold-comments text s [] = refl
fold-comments text s (t ∷ ts) = grind (arith, fold-comments text s ts, fold-comments text (step text s t) ts)

-- the group at a place reaches to the last node
sized-part : (place : ℕ) (nodes : List Node) → IsPart (with_size place nodes) nodes
sized-part place nodes = changed-part _ (λ n ns. again (inl refl) (whole_part ns)) place nodes

-- closing brackets only changes nodes
close-part : (kind : Bracket) (nodes : List Node) (os : List Open) → IsPart (close kind nodes os).nodes nodes
unfolding close
close-part kind nodes [] = whole_part nodes
close-part kind nodes (o ∷ os) =
    let without = changed-part (in_role Lone) (λ n ns. again (inr (inr refl)) (whole_part ns)) o.place nodes in
    grind (arith, sized-part o.place nodes, part-trans (close-part kind (without_bracket o.place nodes) os) without)

close_rest-part : (nodes : List Node) (os : List Open) → IsPart (close_rest nodes os) nodes
unfolding close_rest
close_rest-part nodes [] = whole_part nodes
close_rest-part nodes (o ∷ os) = part-trans (close_rest-part (with_size o.place nodes) os) (sized-part o.place nodes)

-- a token more, whose node may be added
stepped-part : (s : Scan) (n : Node) (opened closed : Option Bracket) {ns : List Node} → IsPart s.nodes ns
    → IsPart (stepped s n opened closed).nodes (ns ++ n ∷ [])
stepped-part s n opened closed {ns} p =
    let more : IsPart (s.nodes ++ n ∷ []) (ns ++ n ∷ []) = part-append p (kept ends) in
    let same : IsPart s.nodes (ns ++ n ∷ []) = rw append-nil at (part-append p (left_out {n = n} ends)) in
    let closes : (kind : Bracket) → IsPart (close kind s.nodes s.unclosed).nodes (ns ++ n ∷ []) = λ kind. part-trans (close-part kind _ _) same in
    grind (arith, more, same, closes)

-- a node is one of a text: it stands where a token of the text does, has its characters and, where it is an identifier, is one by that token
pub record IsNodeOf (text : List ℕ) (n : Node) : Type 0 where
  pub token : Token
  pub place : n.at ≡ token.at
  pub name : name_of text n ≡ characters_of text token
  pub inside : (0 < n.len) × (n.at + n.len ≤ length text)
  pub token_of : Contains (tokens_of text) token
  pub identifier : is_identifier n ≡ true → is_identifier_token text token ≡ true

-- the nodes are of the text, and their offsets rise from one bound up to below another
abbrev pub Rises : List ℕ → ℕ → ℕ → List Node → Type 0
Rises text lo hi [] = lo ≤ hi
Rises text lo hi (n ∷ ns) = (lo ≤ n.at) × IsNodeOf text n × Rises text (suc n.at) hi ns

-- an identifier of the text between two bounds
abbrev pub IsNameIn : List ℕ → ℕ → ℕ → Node → Type 0
IsNameIn text lo hi n = Rises text lo hi (n ∷ []) × IsNamed n

module _ (text : List ℕ) where
  -- the nodes of some tokens
  abbrev nodes_at : List Token → List Node
  nodes_at ts = map (λ t. node_of t (role_of text t)) ts

  -- what was read is a part of the nodes of its tokens
  scan-part : (ts : List Token) (s : Scan) {ns : List Node} → IsPart s.nodes ns → IsPart (fold (step text) s ts).nodes (ns ++ nodes_at ts)
  unfolding step
  scan-part [] s p = rw append-nil p
  scan-part (t ∷ ts) s p = rw append_assoc at (scan-part ts (step text s t) (stepped-part s (node_of t (role_of text t)) _ _ p))

  -- a part of nodes that rise, from the same bound or a lower one
  pub rises-part : (low lo hi : ℕ) {ms ns : List Node} → low ≤ lo → IsPart ms ns → Rises text lo hi ns → Rises text low hi ms
  rises-part low lo hi le ends r = omega arith
  rises-part low lo hi le (left_out {n} p) r = let above = r.0 in rises-part low (suc n.at) hi (omega arith) p r.2
  rises-part low lo hi le (again {n} {role} k p) r =
      let is = r.1 in
      let identifier : names role ≡ true → is_identifier_token text is.token ≡ true = grind (arith, k, is.identifier) in
      ((omega (arith, r.0)), search (rules, is.place, is.name, is.inside, is.token_of, identifier), rises-part (suc n.at) (suc n.at) hi (omega arith) p r.2)

  pub rises-bounds : (lo hi : ℕ) (ns : List Node) → Rises text lo hi ns → lo ≤ hi
  rises-bounds lo hi ns r = rises-part lo lo hi (omega arith) (no_part ns) r

  -- nodes that rise, cut in two
  pub rises-cut : (lo hi : ℕ) (xs ys : List Node) → Rises text lo hi (xs ++ ys) → (mid : ℕ) × Rises text lo mid xs × Rises text mid hi ys
  rises-cut lo hi [] ys r = (lo, (omega arith), r)
  rises-cut lo hi (x ∷ xs) ys r = let rest = rises-cut (suc x.at) hi xs ys r.2 in (rest.0, (r.0, r.1, rest.1), rest.2)

  -- no more nodes than characters
  pub rises-few : (lo hi : ℕ) (ns : List Node) → lo ≤ length text → Rises text lo hi ns → lo + length ns ≤ length text
  rises-few lo hi [] le r = omega arith
  rises-few lo hi (n ∷ ns) le r = let inside = r.1.inside in omega (arith, r.0, rises-few (suc n.at) hi ns (omega arith) r.2)

  -- the identifiers among nodes that rise
  pub rises-names : (low lo hi : ℕ) (ns : List Node) → low ≤ lo → Rises text lo hi ns → AllByRecursion (λ n. is_identifier n ≡ true → IsNameIn text low hi n) ns
  rises-names low lo hi [] le r = tt
  rises-names low lo hi (n ∷ ns) le r =
      ((λ named. (((omega (arith, r.0)), r.1, rises-bounds (suc n.at) hi ns r.2), named)), rises-names low (suc n.at) hi ns (omega (arith, r.0)) r.2)

  -- the nodes of the tokens that are left, from the same bound or a lower one
  tokens-rise : (low at : ℕ) (ts : List Token) → AreTokensFrom at text ts → AllByRecursion (λ t. IsInside text t × Contains (tokens_of text) t) ts
      → low ≤ at → at ≤ length text → Rises text low (length text) (nodes_at ts)
  tokens-rise low at [] cut all le few = omega arith
  tokens-rise low at (t ∷ ts) cut all le few =
      let begins : t.at ≡ at + prefix_len is_white_space (drop at text) = ap (λ (t : Token). t.at) cut.1 in
      let inside = all.0.0 in
      let rest = tokens-rise (suc t.at) _ ts cut.2 all.1 (omega arith) (omega arith) in
      ((omega arith), record { token = t; place = refl; name = refl; inside = inside; token_of = all.0.1; identifier = role-identifier text t }, rest)

  module _ (cut : AreTokensFrom 0 text (tokens_of text)) (inside : All (IsInside text) (tokens_of text)) where
    text-rises : Rises text 0 (length text) (nodes_at (tokens_of text))
    text-rises =
        let all : AllByRecursion (λ t. IsInside text t × Contains (tokens_of text) t) (tokens_of text) =
        recursion_from_All _ _ (λ k d l. (inside k d l, Contains-get_or (tokens_of text) k d l)) in
        tokens-rise 0 0 (tokens_of text) cut all (omega arith) (omega arith)

    -- no more tokens than characters
    pub tokens-few : length (tokens_of text) ≤ length text
    tokens-few = omega (arith, rises-few 0 (length text) _ (omega arith) text-rises, length-map (tokens_of text) (λ t. node_of t (role_of text t)))

    -- the units of the forest rise
    pub units-rise : Rises text 0 (length text) (nodes_of (units_of (forest_of text (tokens_of text))))
    unfolding forest_of
    units-rise =
        let s = scan_of text (tokens_of text) in
        let part = part-trans (close_rest-part s.nodes s.unclosed) (scan-part (tokens_of text) (record { nodes = []; unclosed = [] }) ends) in
        rises-part 0 0 (length text) (omega arith) (part-trans (units-part 0 _) part) text-rises

-- a kind of types
abbrev pub is_type_kind : StubKind → Bool
is_type_kind k = nat_le (code_of ClassKind) (code_of k) && nat_le (code_of k) (code_of Annotation)

-- a declaration with a name between two bounds, and with nodes behind it for a type alone
abbrev pub IsSound : List ℕ → ℕ → ℕ → Declaration → Type 0
IsSound text lo hi d = Rises text lo hi (d.name ∷ d.behind) × IsNamed d.name × ((is_type_kind d.kind ≡ true) ⊎ (d.behind ≡ []))

type_kind-is : (before : Role) (n : Node) (ns : List Node) → IfSome (type_kind before n ns) (λ k. is_type_kind k ≡ true)
unfolding type_kind
type_kind-is before n ns =
    let Is : Option StubKind → Type 0 = λ k. IfSome k (λ k. is_type_kind k ≡ true) in
    cond_both (same_role Dot before) _ _ Is (λ e. tt) (λ e. cond_both (is Class n) _ _ Is (λ e. refl) (λ e.
    cond_both (is Interface n) _ _ Is (λ e. cond_both (same_role At before) _ _ Is (λ e. refl) (λ e. refl)) (λ e.
    cond_both (is Enum n) _ _ Is (λ e. refl) (λ e. cond_both (is Record n && begins_record ns) _ _ Is (λ e. refl) (λ e. tt)))))

-- what each identifier has, has each that the rules find
module _ (Has : Node → Type 0) where
  -- each identifier of the nodes has it
  abbrev Have : List Node → Type 0
  Have ns = AllByRecursion (λ n. is_identifier n ≡ true → Has n) ns

  -- the rule of methods
  method_after-found : (only : Bool) (ns : List Node) → Have ns → IfSome (method_after only ns) (λ m. Has m.0)
  unfolding method_after
  method_after-found only [] all = tt
  method_after-found only (n ∷ ns) all = grind (arith, all.0, method_after-found (only && may_precede_constructor n) ns all.1)

  -- the rule of fields
  field_after-found : (before : Role) (name : Option Node) (ns : List Node) → IfSome name Has → Have ns → IfSome (field_after before name ns) Has
  unfolding field_after
  field_after-found before name [] so_far all = so_far
  field_after-found before name (n ∷ ns) so_far all =
      let named : is_identifier n ≡ true → IfSome (field_after n.role (Some n) ns) Has = λ named. field_after-found n.role (Some n) ns (all.0 named) all.1 in
      grind (arith, so_far, named, field_after-found n.role None ns tt all.1, field_after-found n.role name ns so_far all.1)

  -- the rule of supers, which are no more than the nodes with the last identifier
  supers_after-found : (ns : List Node) (in_clause : Bool) (last : Option Node) → AllByRecursion Has (option_to_list last) → Have ns
      → AllByRecursion Has (supers_after in_clause last ns) × (length (supers_after in_clause last ns) ≤ length (option_to_list last) + length ns)
  unfolding supers_after
  supers_after-found [] in_clause last so_far all = (so_far, (omega arith))
  supers_after-found (n ∷ ns) in_clause last so_far all =
      let found = λ (clause : Bool) (last : Option Node) (had : AllByRecursion Has (option_to_list last)). supers_after-found ns clause last had all.1 in
      let ended = λ (after : Bool). all-append Has (option_to_list last) _ so_far (found after None tt).0 in
      let few = λ (after : Bool). (found after None tt).1 in
      let named = λ (is : is_identifier n ≡ true). found in_clause (Some n) (all.0 is, tt) in
      grind (arith, length-append, ended true, ended false, ended in_clause, few true, few false, few in_clause, named, found in_clause last so_far)

module _ (text : List ℕ) (low hi : ℕ) where
  -- a type that is named behind its word, where the nodes rise from the bound or a higher one
  named_type-sound : (lo : ℕ) (kind : StubKind) (ns : List Node) → low ≤ lo → Rises text lo hi ns → is_type_kind kind ≡ true
      → IfSome (named_type kind ns) (IsSound text low hi)
  named_type-sound lo kind [] le r is = tt
  named_type-sound lo kind (n ∷ ns) le r is = let above : low ≤ n.at = omega (arith, r.0) in grind (arith, above, is, r.1, r.2)

  -- the rule of types
  type_after-sound : (before : Role) (lo : ℕ) (ns : List Node) → low ≤ lo → Rises text lo hi ns
      → IfSome (type_after before ns) (λ t. IfSome (named_type t.0 t.1) (IsSound text low hi))
  unfolding type_after
  type_after-sound before lo [] le r = tt
  type_after-sound before lo (n ∷ ns) le r =
      let above : low ≤ suc n.at = omega (arith, r.0) in
      let named : (k : StubKind) → is_type_kind k ≡ true → IfSome (named_type k ns) (IsSound text low hi) = λ k. named_type-sound (suc n.at) k ns above r.2 in
      grind (arith, type_kind-is before n ns, named, type_after-sound n.role (suc n.at) ns above r.2)

  -- what a header declares
  pub declaration-sound : (holder : Option Holder) (ns : List Node) → Rises text low hi ns → IfSome (declaration_of text holder ns) (IsSound text low hi)
  unfolding declaration_of
  declaration-sound holder ns r =
      let names = rises-names text low low hi ns (omega arith) r in
      let field = field_after-found _ Other None ns tt names in
      grind (arith, type_after-sound Other low ns (omega arith) r, method_after-found _ true ns names, field)

-- a character takes at most four bytes
bytes-few : (cs : List ℕ) → length (encode_utf8_all cs) ≤ 4 * length cs
bytes-few [] = omega arith
bytes-few (c ∷ cs) = omega (arith, bytes-few cs, (len_utf8_bounds c).1, length-encode c, length-append (encode_utf8 c) (encode_utf8_all cs))

module _ (text : List ℕ) where
  -- the characters of a node are a lawful name
  name-lawful : (few : length text ≤ max_chars) (n : Node) → IsNodeOf text n → IsLawfulName (name_of text n)
  name-lawful few n is =
      let cs = name_of text n in
      let width : length cs ≡ n.len = omega (arith, length-take n.len (drop n.at text), length-drop n.at text) in
      record { some = λ none. absurd (let e : length cs ≡ 0 = ap length none in omega arith); short = omega (arith, bytes-few cs) }

  -- what each stub of the text is: it is named by an identifier of it, each of its supers is one, and it is lawful where the text isn't too long
  abbrev pub IsStubOf : Stub → Type 0
  IsStubOf s = IsNamedIn text s × All (IsIdentifierOf text) s.supers × (length text ≤ max_chars → IsLawfulStub s)

  -- a kind has one of nine codes
  kind-bounds : (k : StubKind) → (1 ≤ code_of k) × (code_of k ≤ 9)
  kind-bounds k = ((grind arith), (grind arith))

  -- so is that of a declaration that was found
  stub-sound : (depth lo hi : ℕ) (d : Declaration) → depth ≤ max_depth → IsSound text lo hi d → IsStubOf (stub_of text depth d)
  unfolding stub_of supers_after
  stub-sound depth lo hi d shallow sound =
      let (above, is, rest) = sound.0 in
      let inside = is.inside in
      let names = rises-names text lo (suc d.name.at) hi d.behind (omega arith) rest in
      let supers = supers_after-found (IsNameIn text lo hi) d.behind false None tt names in
      let each : All (IsNameIn text lo hi) (supers_of d.behind) = All-from_recursion _ _ supers.0 in
      let behind = rises-few text (suc d.name.at) hi d.behind (omega arith) rest in
      let named : IsNamedIn text (stub_of text depth d) = search (rules, is.token_of, is.identifier sound.1, is.place, is.name) in
      let told : (n : Node) → IsNameIn text lo hi n → IsIdentifierOf text (name_of text n) =
      λ n found. search (rules, found.0.1.token_of, found.0.1.identifier found.1, found.0.1.name) in
      let lawful : length text ≤ max_chars → IsLawfulStub (stub_of text depth d) = λ few. record {
        is_kind = kind-bounds d.kind;
        shallow = shallow;
        in_text = omega arith;
        named = name-lawful few d.name is;
        supers_named = All-map IsLawfulName (name_of text) _ (λ k n inside. name-lawful few _ (each k n inside).0.1);
        supers_few = omega (arith, supers.1, length-map (supers_of d.behind) (name_of text));
        supers_of_types = λ other. ⊎_elim (λ type. absurd (cc)) (λ none. rw none refl) sound.2;
      } in
      (named, All-map (IsIdentifierOf text) (name_of text) _ (λ k n inside. told _ (each k n inside)), lawful)

-- any stub of no greater depth than this, and with no lower offset, may follow
abbrev pub MayPrecede : Option Stub → ℕ → ℕ → Type 0
MayPrecede before depth lo = (s : Stub) → s.depth ≤ depth → lo ≤ s.at → MayFollow before s

module _ (text : List ℕ) where
  -- each of the stubs is one of the text, and may follow the one before it
  abbrev pub AreAfter : Option Stub → List Stub → Type 0
  AreAfter before [] = Unit {0}
  AreAfter before (s ∷ ss) = IsStubOf text s × MayFollow before s × AreAfter (Some s) ss

  -- the offsets behind a stub are greater
  after-above : (lo : ℕ) (before : Stub) (ss : List Stub) → lo ≤ before.at → AreAfter (Some before) ss → AllByRecursion (λ s. lo < s.at) ss
  after-above lo before [] le all = tt
  after-above lo before (s ∷ ss) le all = let next = all.1.2 in ((omega arith), after-above lo s ss (omega arith) all.2)

  -- so each is one of the text, the offsets rise, and where the text isn't too long they are a lawful list
  after-sound : (before : Option Stub) (ss : List Stub) → AreAfter before ss
      → AllByRecursion (IsStubOf text) ss × AllPairs (λ a b. a.at < b.at) ss × (length text ≤ max_chars → IsLawfulAfter before ss)
  after-sound before [] all = (tt, (λ i j d less inside. absurd (omega (arith, inside))), (λ few. tt))
  after-sound before (s ∷ ss) all =
      let (each, rise, lawful) = after-sound (Some s) ss all.2 in
      let above = All-from_recursion _ ss (after-above s.at s ss (omega arith) all.2) in
      ((all.0, each), AllPairs-cons (λ (a b : Stub). a.at < b.at) s ss above rise, (λ few. (all.0.2 few, all.1, lawful few)))

  -- Stubs of a level, whose offsets stand between two bounds: they are so behind any stub that such stubs may follow, with any list behind them that is
  -- so behind each stub that may be their last.
  record IsLevel (depth lo hi : ℕ) (ss : List Stub) : Type 0 where
    pub follows : (before : Option Stub) (rest : List Stub) → MayPrecede before depth lo
        → ((last : Option Stub) → MayPrecede last depth hi → AreAfter last rest) → AreAfter before (ss ++ rest)

  -- none, and two lists
  nothing : {depth lo hi : ℕ} → lo ≤ hi → IsLevel depth lo hi []
  nothing le = record { follows = λ before rest may others. others before (λ s shallow above. may s shallow (omega arith)) }

  joined : {depth lo mid hi : ℕ} {xs ys : List Stub} → IsLevel depth lo mid xs → IsLevel depth mid hi ys → IsLevel depth lo hi (xs ++ ys)
  joined p q = record { follows = λ before rest may others. rw append_assoc (p.follows before _ may (λ last may. q.follows last rest may others)) }

  -- what is listed of units of the text, whose type is this, is a level
  abbrev AreLevels : ℕ → (Option Holder → List UnitOf → List Stub) → Type 0
  AreLevels depth members =
      (holder : Option Holder) (lo hi : ℕ) (us : List UnitOf) → Rises text lo hi (nodes_of us) → IsLevel depth lo hi (members holder us)

  module _ (depth : ℕ) (shallow : depth ≤ max_depth) (members : Option Holder → List UnitOf → List Stub) (below : AreLevels (suc depth) members) where
    -- a declaration and, if it is a type, its members
    declared-listed : (lo mid hi : ℕ) (body : List Node) (found : Option Declaration) → lo ≤ mid → Rises text mid hi body → IfSome found (IsSound text lo mid)
        → IsLevel depth lo hi (declared_stubs text depth members body found)
    unfolding stub_of
    declared-listed lo mid hi body None le r sound = nothing (omega (arith, rises-bounds text mid hi body r))
    declared-listed lo mid hi body (Some d) le r sound =
        let s = stub_of text depth d in
        let above = sound.0.0 in
        let below_mid = rises-bounds text (suc d.name.at) mid d.behind sound.0.2 in
        let ordered = rises-bounds text mid hi body r in
        let members = rises-part text mid mid hi (omega arith) (units-part 0 body) r in
        let inner = below (Some (record { kind = d.kind; name = d.name })) mid hi (units_of body) members in
        record {
          follows = λ before rest may others.
              let behind = cond_both (is_type s) _ _ (λ ss. AreAfter (Some s) (ss ++ rest))
              (λ type. inner.follows (Some s) rest (λ t deep far. ((omega arith), (λ deeper. type), (omega arith)))
              (λ last may. others last (λ t shallow far. may t (omega arith) far)))
              (λ other. others (Some s) (λ t shallow far. ((omega arith), (λ deeper. absurd (omega arith)), (omega arith)))) in
              (stub-sound text depth lo mid d shallow sound, may s (omega arith) (omega arith), behind);
        }

    constants-listed : (lo hi : ℕ) (names : List Node) → Rises text lo hi names → AllByRecursion IsNamed names
        → IsLevel depth lo hi (map (constant_stub text depth) names)
    unfolding stub_of
    constants-listed lo hi [] r named = nothing r
    constants-listed lo hi (n ∷ ns) r named =
        let next = suc n.at in
        let constant : Declaration = record { kind = Constant; name = n; behind = [] } in
        let first = declared-listed lo next next [] (Some constant) (omega arith) (omega arith) ((r.0, r.1, (omega arith)), named.0, inr refl) in
        joined first (constants-listed next hi ns r.2 named.1)

    items-listed : (lo hi : ℕ) (holder : Option Holder) (items : List Item) → Rises text lo hi (item_nodes items)
        → IsLevel depth lo hi (flat_map (item_stubs text depth members holder) items)
    unfolding item_stubs
    items-listed lo hi holder [] r = nothing r
    items-listed lo hi holder (i ∷ is) r =
        let (mid, header, behind) = rises-cut text lo hi i.header (i.body ++ item_nodes is) r in
        let (end, body, others) = rises-cut text mid hi i.body (item_nodes is) behind in
        let found = declaration-sound text lo mid holder _ (rises-part text lo lo mid (omega arith) (header-part i.header) header) in
        joined (declared-listed lo mid end i.body _ (rises-bounds text lo mid i.header header) body found) (items-listed end hi holder is others)

  -- a level, as an enum's body and as any other
  level-listed : (left depth : ℕ) → left + depth ≡ suc max_depth → AreLevels depth (level_stubs text left depth)
  unfolding level_stubs
  level-listed zero depth deep holder lo hi us r = nothing (rises-bounds text lo hi _ r)
  level-listed (suc left) depth deep holder lo hi us r =
      let shallow : depth ≤ max_depth = omega arith in
      let below = level-listed left (suc depth) (omega arith) in
      let F = item_stubs text depth (level_stubs text left (suc depth)) holder in
      let items : (lo : ℕ) (us : List UnitOf) → Rises text lo hi (nodes_of us) → IsLevel depth lo hi (flat_map F (items_of us)) =
      λ lo us r. items-listed depth shallow _ below lo hi holder (items_of us) (rises-part text lo lo hi (omega arith) (items-part ends us) r) in
      let before = constants-part ends us in
      let (mid, names, behind) = rises-cut text lo hi (constants_after [] us) _ (rises-part text lo lo hi (omega arith) before.1 r) in
      let constants = map (constant_stub text depth) (constants_after [] us) in
      by_bool (is_enum holder)
      (λ b. IsLevel depth lo hi ((if b then constants else []) ++ flat_map F (items_of (if b then behind_semicolon us else us))))
      (joined (constants-listed depth shallow _ below lo mid _ names before.0) (items mid (behind_semicolon us) behind)) (items lo us r)

  -- the listing of a text
  pub listing-sound : AreTokensFrom 0 text (tokens_of text) → All (IsInside text) (tokens_of text)
      → All (IsStubOf text) (listing_of text) × AllPairs (λ a b. a.at < b.at) (listing_of text) × (length text ≤ max_chars → IsLawfulList (listing_of text))
  unfolding listing_of
  listing-sound cut inside =
      let level = level-listed (suc max_depth) 0 (omega arith) None 0 (length text) _ (units-rise text cut inside) in
      let sound = after-sound None _ (rw append-nil at (level.follows None [] (λ s shallow above. omega arith) (λ last may. tt))) in
      (All-from_recursion _ _ sound.0, sound.1, sound.2)

-- none of the nodes declares a type
abbrev ArePlain : List Node → Type 0
ArePlain ns = AllByRecursion DeclaresNoType ns

-- nor does one of a part
plain-part_of : {ms ns : List Node} → IsPart ms ns → ArePlain ns → ArePlain ms
plain-part_of ends all = tt
plain-part_of (left_out p) all = plain-part_of p all.1
plain-part_of (again k p) all =
    let is = all.0 in
    (record { no_class = grind arith; no_interface = grind arith; no_enum = grind arith; no_record = grind arith }, plain-part_of p all.1)

-- so no node is one by which the rule of types finds one
kind-none : (before : Role) (n : Node) (ns : List Node) → DeclaresNoType n → type_kind before n ns ≡ None
unfolding type_kind
kind-none before n ns p =
    rw (p.no_class, p.no_interface, p.no_enum, p.no_record) (cond_both _ _ _ (λ (k : Option StubKind). k ≡ None) (λ e. refl) (λ e. refl))

-- so it finds none
type-none : (before : Role) (ns : List Node) → ArePlain ns → type_after before ns ≡ None
unfolding type_after
type-none before [] p = refl
type-none before (n ∷ ns) p = rw (kind-none before n ns p.0) (type-none n.role ns p.1)

module _ (text : List ℕ) (depth : ℕ) (members : Option Holder → List UnitOf → List Stub) (holder : Option Holder) where
  -- none of what items list is a type
  abbrev ListNone : List Item → Type 0
  ListNone items = AllByRecursion (λ s. is_type s ≡ false) (flat_map (item_stubs text depth members holder) items)

  -- nor is a member
  member-none : (body : List Node) (method : Option (Node × Bool)) (field : Option Node)
      → AllByRecursion (λ s. is_type s ≡ false) (declared_stubs text depth members body (member_of text holder method field))
  unfolding stub_of
  member-none body None None = tt
  member-none body None (Some f) = (refl, tt)
  member-none body (Some m) field =
      by_bool (m.1 && is_named text holder m.0)
      (λ b. AllByRecursion (λ s. is_type s ≡ false) (declared_stubs text depth members body
      (Some (record { kind = if b then Constructor else Method; name = m.0; behind = [] })))) (refl, tt) (refl, tt)

  -- an item more that lists none
  item-none : (header body : List Node) (items : List Item) → ArePlain header → ListNone items → ListNone (record { header = header; body = body } ∷ items)
  unfolding item_stubs declaration_of stub_of
  item-none header body items p others =
      all-append _ (item_stubs text depth members holder (record { header = header; body = body })) _
      (rw (type-none Other (header_of header) (plain-part_of (header-part header) p)) (member-none body _ _)) others

  -- the items of units list none where no unit declares a type
  mutual
    unfolding items_from items_behind_value

    items-none : (header : List Node) (us : List UnitOf) → ArePlain header → AllByRecursion (λ u. DeclaresNoType u.node) us → ListNone (items_from header us)
    items-none [] [] p all = tt
    items-none (n ∷ ns) [] p all = item-none (n ∷ ns) [] [] p tt
    items-none header (u ∷ us) p all =
        let others = items-none [] us tt all.1 in
        let has_value = item-none header [] _ p (behind-none us all.1) in
        let goes_on = items-none (header ++ u.node ∷ []) us (all-append _ header _ p (all.0, tt)) all.1 in
        grind (arith, item-none header [] _ p others, item-none header u.inside _ p others, has_value, goes_on)

    behind-none : (us : List UnitOf) → AllByRecursion (λ u. DeclaresNoType u.node) us → ListNone (items_behind_value us)
    behind-none [] all = tt
    behind-none (u ∷ us) all = grind (arith, items-none [] us tt all.1, behind-none us all.1)

-- where no unit at the top may declare a type, the text lists none
pub listing-no_types : (text : List ℕ) → All (λ u. DeclaresNoType u.node) (units_of (forest_of text (tokens_of text)))
    → All (λ s. is_type s ≡ false) (listing_of text)
unfolding listing_of level_stubs
listing-no_types text all =
    All-from_recursion _ _ (items-none text 0 (level_stubs text max_depth 1) None [] _ tt (recursion_from_All _ _ all))
