-- A list that is read is spelled so, and what is spelled so is read. The `pub use` lines are what invariants and answers take from outside.
pub use Rattle.std.proofs.Common.{◌≡◌, ℕ, zero, suc, ◌+◌, ◌^◌, ◌<◌, ◌≤◌, Bool, true, false, ◌&&◌, ◌||◌, cond, eqb, ltb, leb, List, [], ◌∷◌, ◌++◌, length, get_or, All, Option, Some, None, Result, Ok, Err, refl, sym, ap, ◌∙◌, append_assoc, append-nil, arith, ◌-◌, take}
pub use Rattle.std.specs.List.{list_all, flat_map}
pub use Rattle.std.specs.Str.{all_scalars}
use Rattle.std.proofs.lemmas.Bool.{and_parts, and_from, eqb-true, leb-true}
use Rattle.std.proofs.lemmas.Bool.Decides.{nat_tests}
use Rattle.std.proofs.lemmas.List.{nil_from_length}
use Rattle.std.proofs.lemmas.List.Elements.{All-nil, All-cons}
use Rattle.ide_text.specs.Text.{max_chars}
use Rattle.stub_tree.specs.declared.stub.Stub.{Stub}
use Rattle.stub_tree.specs.Stub.{is_type}
use Rattle.stub_tree.specs.Lawful.{IsLawfulName, IsLawfulStub, MayFollow, IsLawfulAfter, IsLawfulList, max_depth}
pub use Rattle.byte_fields.specs.Spelling.{number, name, counted}
pub use Rattle.byte_fields.specs.Reading.{byte_at, number_at, name_at, many_at, counted_at, AllAfter}
pub use Rattle.stub_codec.specs.Spelling.{supers, stub, version, has_scalars, IsStubBytes}
pub use Rattle.stub_codec.specs.Reading.{supers_at, stub_at, all_of, is_kind, is_type_kind, may_be_depth, may_be_offset}
pub use Rattle.field_laws.proofs.FieldLemmas.{IsBytes, step, passed, ok_is, IsRead, Takes, Takes-then, Reads, ReadsBack, IsGoodName, byte_takes, number_takes, number_again, name_takes, name_again, bytes_fit, bytes_below}
pub use Rattle.field_laws.proofs.ManyLemmas.{many_takes, counted_takes, counted_again, with_front, last, goes_on, ends, is_done}
pub use Rattle.std.proofs.lemmas.Result.{err_from_is_err_and}
pub use Rattle.std.proofs.lemmas.Grind.{common_steps}

-- a stub that may be written
abbrev pub IsGoodStub : Option Stub → Stub → Type 0
IsGoodStub before s = IsLawfulStub s × MayFollow before s × (has_scalars s ≡ true)

-- what passes the tests of depth and offset may stand there
follows : (before : Option Stub) (s : Stub) → may_be_depth before s.depth ≡ true → may_be_offset before s.at ≡ true
    → (s.depth ≤ max_depth) × (s.at < max_chars) × MayFollow before s
follows None s deep far = (grind (arith, nat_tests, deep), grind (arith, nat_tests, far), grind (arith, nat_tests, deep))
follows (Some before) s deep far =
    let may : MayFollow (Some before) s = (grind (arith, nat_tests, deep), (λ more. grind (arith, nat_tests, deep, more)), grind (arith, nat_tests, far)) in
    (grind (arith, nat_tests, deep), grind (arith, nat_tests, far), may)

-- what may stand there passes them
passes : (before : Option Stub) (s : Stub) → IsLawfulStub s → MayFollow before s → (may_be_depth before s.depth ≡ true) × (may_be_offset before s.at ≡ true)
passes None s lawful may = (grind (arith, nat_tests, may), grind (arith, nat_tests, lawful.in_text))
passes (Some before) s lawful may = (grind (arith, nat_tests, lawful.shallow, may.0, may.1), grind (arith, nat_tests, lawful.in_text, may.2))

-- ---- supers

-- what is spelled of supers, by whether the declaration is a type
abbrev spelled : Bool → List (List ℕ) → List ℕ
spelled of_type names = cond of_type (counted name names) []

-- what was read of supers: few good names, and none of what is no type
abbrev AreSupers : Bool → List (List ℕ) → Type 0
AreSupers of_type names = AllAfter (λ _. IsGoodName) None names × (length names < 2 ^ 32) × (of_type ≡ false → names ≡ [])

supers_takes : (of_type : Bool) → Reads (supers_at of_type) (spelled of_type) (AreSupers of_type)
unfolding supers_at
supers_takes false bytes x fits e = rw (← ok_is ([], bytes) x e) (record { parts = refl; rest_fits = fits }, (tt, omega arith, λ _. refl))
supers_takes true bytes x fits e =
    let read = counted_takes (λ _. name_at) (λ _. IsGoodName) name (λ _. name_takes) bytes x fits e in
    (read.0, (read.1.0, read.1.1, λ never. absurd cc))

supers_again : (of_type : Bool) → ReadsBack (supers_at of_type) (spelled of_type) (AreSupers of_type)
unfolding supers_at
supers_again false names rest good = rw (good.2 refl) refl
supers_again true names rest good = counted_again (λ _. name_at) (λ _. IsGoodName) name (λ _. name_again) names rest (good.0, good.1)

-- names of supers, one by one and all together
all_names : (b : Option (List ℕ)) (names : List (List ℕ)) → AllAfter (λ _. IsGoodName) b names → All IsLawfulName names × (list_all all_scalars names ≡ true)
all_names b [] good = (All-nil IsLawfulName, refl)
all_names b (n ∷ ns) good = let rest = all_names (Some n) ns good.1 in (All-cons IsLawfulName n ns good.0.0 rest.0, grind (arith, good.0.1, rest.1))

each_name : (b : Option (List ℕ)) (names : List (List ℕ)) → All IsLawfulName names → list_all all_scalars names ≡ true → AllAfter (λ _. IsGoodName) b names
each_name b [] lawful scalars = tt
each_name b (n ∷ ns) lawful scalars = let parts = and_parts (all_scalars n) (list_all all_scalars ns) scalars in
    ((lawful 0 n (omega arith), parts.0), each_name (Some n) ns (λ k d l. lawful (suc k) d (omega arith)) parts.1)

-- ---- one stub

-- what holds of the value that a reader makes holds of the one that it made
of_made : {A : Type 0} (T : A → Type 0) (made x : A) → ◌≡◌ {A = Result A ℕ} (Ok made) (Ok x) → T made → T x
of_made T made x e holds = rw (← ok_is made x e) holds

stub_takes : (before : Option Stub) → Reads (stub_at before) stub (IsGoodStub before)
unfolding stub_at
stub_takes before bytes x fits e =
    let k = step (byte_at bytes) _ _ x (λ k. byte_takes bytes k fits) e in
    let known = passed (is_kind k.0.0) bytes _ x k.2 in
    let parts = and_parts (leb 1 k.0.0) (leb k.0.0 9) known.0 in let kind : (1 ≤ k.0.0) × (k.0.0 ≤ 9) = (leb-true 1 k.0.0 parts.0, leb-true k.0.0 9 parts.1) in
    let d = step (byte_at k.0.1) _ _ x (λ d. byte_takes k.0.1 d k.1.0.rest_fits) known.1 in
    let shallow = passed (may_be_depth before d.0.0) k.0.1 _ x d.2 in
    let a = step (number_at d.0.1) _ _ x (λ a. number_takes d.0.1 a d.1.0.rest_fits) shallow.1 in
    let behind = passed (may_be_offset before a.0.0) d.0.1 _ x a.2 in
    let n = step (name_at a.0.1) _ _ x (λ n. name_takes a.0.1 n a.1.0.rest_fits) behind.1 in
    let s = step (supers_at (is_type_kind k.0.0) n.0.1) _ _ x (λ s. supers_takes (is_type_kind k.0.0) n.0.1 s n.1.0.rest_fits) n.2 in
    let read : Stub = record { kind = k.0.0; depth = d.0.0; at = a.0.0; name = n.0.0; supers = s.0.0 } in
    let (deep, far, may) = follows before read shallow.0 behind.0 in
    let (named, scalars) = all_names None s.0.0 s.1.1.0 in
    let lawful : IsLawfulStub read =
    record { is_kind = kind; shallow = deep; in_text = far; named = n.1.1.0; supers_named = named; supers_few = s.1.1.1; supers_of_types = s.1.1.2 } in
    let whole : Takes bytes (stub read) s.0.1 =
    Takes-then {c = s.0.1} k.1.0 (Takes-then {c = s.0.1} d.1.0 (Takes-then {c = s.0.1} a.1.0 (Takes-then {c = s.0.1} n.1.0 s.1.0))) in
    of_made (IsRead stub (IsGoodStub before) bytes) (read, s.0.1) x s.2 (whole, (lawful, may, and_from (all_scalars n.0.0) (list_all all_scalars s.0.0) n.1.1.1 scalars))

stub_again : (before : Option Stub) → ReadsBack (stub_at before) stub (IsGoodStub before)
unfolding stub_at
stub_again before s rest good =
    let lawful = good.0 in let may = passes before s lawful good.1 in
    let scalars = and_parts (all_scalars s.name) (list_all all_scalars s.supers) good.2 in
    let kind : is_kind s.kind ≡ true = grind (arith, nat_tests, lawful.is_kind.0, lawful.is_kind.1) in
    let at = number_again s.at (name s.name ++ (supers s ++ rest)) (omega (arith, lawful.in_text)) in
    let named = name_again s.name (supers s ++ rest) (lawful.named, scalars.0) in
    let few : AreSupers (is_type s) s.supers = (each_name None s.supers lawful.supers_named scalars.1, lawful.supers_few, lawful.supers_of_types) in
    let front = append_assoc (number s.at) (name s.name ++ supers s) rest in let behind = append_assoc (name s.name) (supers s) rest in
    rw (front, behind, kind, may.0, at, may.1, named, supers_again (is_type s) s.supers rest few) refl

-- ---- a list of stubs

-- each stub is good behind the one before it where the list is lawful and its names are texts of Unicode
good_from : (before : Option Stub) (stubs : List Stub) → IsLawfulAfter before stubs → list_all has_scalars stubs ≡ true → AllAfter IsGoodStub before stubs
good_from before [] lawful scalars = tt
good_from before (s ∷ ss) lawful scalars = let parts = and_parts (has_scalars s) (list_all has_scalars ss) scalars in
    ((lawful.0, lawful.1, parts.0), good_from (Some s) ss lawful.2 parts.1)

lawful_from : (before : Option Stub) (stubs : List Stub) → AllAfter IsGoodStub before stubs → IsLawfulAfter before stubs × (list_all has_scalars stubs ≡ true)
lawful_from before [] good = (tt, refl)
lawful_from before (s ∷ ss) good = let rest = lawful_from (Some s) ss good.1 in ((good.0.0, good.0.1, rest.0), grind (arith, good.0.2, rest.1))

-- what is read of all bytes is what they spell
pub all_takes : (bytes : List ℕ) (stubs : List Stub) → IsBytes bytes → all_of bytes ≡ Ok stubs → IsStubBytes stubs bytes
unfolding all_of
all_takes bytes stubs fits e =
    let v = step (byte_at bytes) _ _ stubs (λ v. byte_takes bytes v fits) e in
    let known = passed (eqb v.0.0 version) bytes _ stubs v.2 in
    let m = step (counted_at stub_at v.0.1) _ _ stubs (λ m. counted_takes stub_at IsGoodStub stub stub_takes v.0.1 m v.1.0.rest_fits) known.1 in
    let ended = passed (eqb (length m.0.1) 0) m.0.1 _ stubs m.2 in
    let whole = Takes-then {c = m.0.1} v.1.0 m.1.0 in let nothing = nil_from_length m.0.1 (eqb-true (length m.0.1) 0 ended.0) in
    let spelled : bytes ≡ version ∷ counted stub m.0.0 = grind (arith, whole.parts, eqb-true v.0.0 version known.0, nothing, append-nil (counted stub m.0.0)) in
    let (lawful, scalars) = lawful_from None m.0.0 m.1.1.0 in
    rw (← ok_is m.0.0 stubs ended.1) (record { lawful = lawful; scalars = scalars; spelled = spelled })

-- what is spelled is read
pub all_again : (stubs : List Stub) (bytes : List ℕ) → length stubs < 2 ^ 32 → IsStubBytes stubs bytes → all_of bytes ≡ Ok stubs
unfolding all_of
all_again stubs bytes few is =
    let read = rw append-nil at (counted_again stub_at IsGoodStub stub stub_again stubs [] (good_from None stubs is.lawful is.scalars, few)) in
    ap all_of is.spelled ∙ rw read refl

-- the stubs that are read behind the version and their number are a lawful list
pub lawful_read : (bytes : List ℕ) (version count : ℕ × List ℕ) (read : List Stub × List ℕ) → IsBytes bytes → byte_at bytes ≡ Ok version
    → number_at version.1 ≡ Ok count → many_at stub_at count.0 None count.1 ≡ Ok read → IsLawfulList read.0
lawful_read bytes v c m fits ve ce me =
    let ct = number_takes v.1 c (byte_takes bytes v fits ve).0.rest_fits ce in
    (lawful_from None m.0 (many_takes stub_at IsGoodStub stub stub_takes c.0 None c.1 m ct.0.rest_fits me).2).0

-- a stub of a lawful list is lawful
pub lawful_at : (before : Option Stub) (stubs : List Stub) (i : ℕ) (d : Stub) → IsLawfulAfter before stubs → i < length stubs → IsLawfulStub (get_or stubs i d)
lawful_at before [] i d lawful inside = absurd (omega (arith, inside))
lawful_at before (s ∷ ss) zero d lawful inside = lawful.0
lawful_at before (s ∷ ss) (suc i) d lawful inside = lawful_at (Some s) ss i d lawful.2 (omega (arith, inside))
