-- What the proofs of this crate take from the kit, from lower crates and from the definitions; and what words and marks are to the rules.
pub use Rattle.std.proofs.Common.{Bool, List, None, [], append-nil, arith, bytes_eq, codes, drop, false, flat_map, fold, length, map, not, refl, suc, sym}
pub use Rattle.std.proofs.Common.{take, true, vec_capacity, vec_len, ℕ, if◌then◌else◌, ◌*◌, ◌++◌, ◌+◌, ◌-◌, ◌||◌, ◌∙◌, ◌∷◌, ◌≡◌, ◌≤◌}
pub use Rattle.std.proofs.lemmas.Grind.{common_steps}
pub use Rattle.std.proofs.lemmas.List.{drop_min, length-map, take_min}
pub use Rattle.std.specs.List.{AllByRecursion, list_all, list_any, prefix_len}
pub use Rattle.ide_text.specs.Text.{max_chars}
pub use Rattle.java_tokens.specs.Token.{Token}
pub use Rattle.java_tokens.specs.Tokens.{AreTokensFrom, IsInside, characters_of, tokens_of}
pub use Rattle.java_tokens.specs.Words.{is_comment, is_identifier_token}
pub use Rattle.list_laws.proofs.PartLemmas.{drop-part}
pub use Rattle.stub_tree.specs.Lawful.{IsLawfulAfter, IsLawfulList, IsLawfulName, IsLawfulStub, MayFollow, max_depth}
pub use Rattle.decl_parser.specs.Forest.{close, close_rest, is, scan_of, step}
pub use Rattle.decl_parser.specs.Header.{angled_after, annotation_rest, without_annotations}
pub use Rattle.decl_parser.specs.Listing.{constant_stub, item_stubs, stubs_at}
pub use Rattle.decl_parser.specs.Node.{Node, in_role, name_of, node_of, sized}
pub use Rattle.decl_parser.specs.Role.{role_among, role_of}
pub use Rattle.decl_parser.specs.Rule.{constants_after, field_after, first_identifier, method_after, supers_after, supers_of, type_after, type_head}
pub use Rattle.decl_parser.specs.Unit.{behind_semicolon, items_behind_value, items_from, items_of, units_of}
pub use Rattle.decl_parser.specs.declared.role.Role.{Role}
pub use Rattle.decl_parser.specs.declared.role.Role.TheVariants.{Angled, At, Class, Enum, Extends, Identifier, Implements, Interface, Lone, Modifier, Other}
pub use Rattle.decl_parser.specs.declared.role.Role.TheVariants.{Permits, Primitive, Record}
use Rattle.std.proofs.lemmas.Slice.Eq.{bytes_eq-Decides}
use Rattle.java_tokens.specs.Identifier.{is_reserved, literal_words, reserved_words}
use Rattle.decl_parser.specs.Role.{common_word_role, is_among, is_marked, mark_role, modifiers, primitive_types, same_role, word_role}

-- characters that fail a test are those of none of some words that pass it
not_among : (test : List ℕ → Bool) (ws : List (List ℕ)) (cs : List ℕ) → list_all test ws ≡ true → test cs ≡ false → is_among ws cs ≡ false
not_among test [] cs all fails = refl
not_among test (w ∷ ws) cs all fails = grind (arith, (bytes_eq-Decides w cs).0, not_among test ws cs)

-- such characters are an identifier
pub word_role-plain : (cs : List ℕ) → is_marked cs ≡ false → word_role cs ≡ Identifier
unfolding word_role common_word_role is_reserved is_marked
word_role-plain cs plain =
    let no : (ws : List (List ℕ)) → list_all is_marked ws ≡ true → is_among ws cs ≡ false = λ ws all. not_among is_marked ws cs all plain in
    rw (no (codes "class" ∷ []) refl, no (codes "interface" ∷ []) refl, no (codes "enum" ∷ []) refl, no (codes "record" ∷ []) refl)
    (rw (no (codes "extends" ∷ []) refl, no (codes "implements" ∷ []) refl, no (codes "permits" ∷ []) refl)
    (rw (no modifiers refl, no primitive_types refl, no (reserved_words ++ literal_words) refl) refl))

-- a look-up among words that have the roles given, and that are all that the characters may be
pub role_among-word_role : {W : Type 0} (name : W → List ℕ) (role : W → Role) (ws : List W) (cs : List ℕ)
    → map (λ w. word_role (name w)) ws ≡ map role ws → list_any (λ w. bytes_eq (name w) cs) ws ≡ is_marked cs
    → role_among name role ws cs ≡ word_role cs
role_among-word_role name role [] cs roles words = sym (word_role-plain cs (sym words))
role_among-word_role name role (w ∷ ws) cs roles words = grind (arith, (bytes_eq-Decides (name w) cs).0, role_among-word_role name role ws cs)

-- the role is one of identifiers
abbrev pub names : Role → Bool
names role = same_role Identifier role || same_role Record role || same_role Permits role

-- of the tests of a word one after another, two and the end lead to an identifier
word-tests : (class interface enum named extends implements permits modifier primitive reserved : Bool)
    → (reserved ≡ true → named ≡ false) → (reserved ≡ true → permits ≡ false)
    → names (if class then Class else if interface then Interface else if enum then Enum else if named then Record else if extends then Extends
    else if implements then Implements else if permits then Permits else if modifier then Modifier else if primitive then Primitive
    else if reserved then Other else Identifier) ≡ true → reserved ≡ false
word-tests class interface enum named extends implements permits modifier primitive reserved no_record no_permits identifier = grind arith

-- a word that is an identifier isn't reserved, for `record` and `permits` aren't
word-identifier : (cs : List ℕ) → names (word_role cs) ≡ true → is_reserved cs ≡ false
unfolding word_role common_word_role is_reserved
word-identifier cs =
    let free : (word : List ℕ) → is_reserved word ≡ false → is_reserved cs ≡ true → is_among (word ∷ []) cs ≡ false =
    λ word no is. not_among (λ w. not (is_reserved w)) (word ∷ []) cs (rw no refl) (rw is refl) in
    let has : List ℕ → Bool = λ word. is_among (word ∷ []) cs in
    word-tests (has (codes "class")) (has (codes "interface")) (has (codes "enum")) _ (has (codes "extends")) (has (codes "implements")) _
    (is_among modifiers cs) (is_among primitive_types cs) _ (free (codes "record") refl) (free (codes "permits") refl)

-- a token that is an identifier to the rules is one
pub role-identifier : (text : List ℕ) (t : Token) → names (role_of text t) ≡ true → is_identifier_token text t ≡ true
unfolding mark_role
role-identifier text t e = grind (arith, word-identifier (characters_of text t))
