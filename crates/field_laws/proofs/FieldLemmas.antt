-- A field that is read is the one that was written, and what was written is read again.
use Rattle.std.proofs.Common.{◌≡◌, ◌≢◌, ℕ, suc, ◌+◌, ◌^◌, ◌<◌, ◌≤◌, Bool, true, false, ltb, leb, List, [], ◌∷◌, ◌++◌, length, get_or, take, drop, All, Result, Ok, Err, refl, sym, ap, ◌∙◌}
use Rattle.std.proofs.Common.{append_assoc, arith, le-leb, take-append-drop, length-append, length-take, get_or-drop, get_or-take}
use Rattle.std.specs.Int.{w32, from_be_bytes}
use Rattle.std.specs.Str.{chars, is_utf8, IsUtf8, all_scalars, encode_utf8_all}
use Rattle.std.proofs.lemmas.Bool.Decides.{nat_tests}
use Rattle.std.proofs.lemmas.List.{take_at, drop_at, get_or_past}
use Rattle.std.proofs.lemmas.Nat.{be_bytes_4, from_be_bytes-to_be_bytes_4}
use Rattle.std.proofs.lemmas.Str.{encodes-chars, scalars-chars, chars-encodes, IsUtf8-from_is_utf8, is_utf8-from_IsUtf8, length-le-encodes}
use Rattle.std.proofs.lemmas.Grind.{get_or_default_zero}
use Rattle.stub_tree.specs.Lawful.{IsLawfulName}
use Rattle.byte_fields.specs.Spelling.{number, name}
use Rattle.byte_fields.specs.Reading.{◌>>=◌, checked, byte_at, number_at, characters_at, name_at}

-- the numbers of a list are below 256; behind its end a 0 is read
abbrev pub IsBytes : List ℕ → Type 0
IsBytes bytes = (i : ℕ) → get_or bytes i 0 < 256

-- numbers below 256 are bytes
pub bytes_fit : (bytes : List ℕ) → All (λ b. b < 256) bytes → IsBytes bytes
bytes_fit bytes each i = grind (arith, each i 0, get_or_past bytes i 0)

-- bytes are numbers below 256
pub bytes_below : (bytes : List ℕ) → IsBytes bytes → All (λ b. b < 256) bytes
bytes_below bytes fits i d lt = rw (get_or_default_zero bytes i d lt) (fits i)

pub IsBytes-drop : (n : ℕ) (bytes : List ℕ) → IsBytes bytes → IsBytes (drop n bytes)
IsBytes-drop n bytes h i = rw get_or-drop (h (n + i))

pub IsBytes-take : (n : ℕ) (bytes : List ℕ) → IsBytes bytes → IsBytes (take n bytes)
IsBytes-take n bytes h i = grind (arith, h i, get_or-take n bytes i 0, get_or_past (take n bytes) i 0, length-take n bytes)

-- the value of a step that met no fault, with what is known of it
pub step : {A B : Type 0} (r : Result A ℕ) (T : A → Type 0) (f : A → Result B ℕ) (y : B) → ((x : A) → r ≡ Ok x → T x) → (r >>= f) ≡ Ok y
    → (x : A) × T x × (f x ≡ Ok y)
step (Ok x) T f y law e = (x, law x refl, e)
step (Err left) T f y law e = absurd cc

-- the value alone
pub bind_ok : {A B : Type 0} (r : Result A ℕ) (f : A → Result B ℕ) (y : B) → (r >>= f) ≡ Ok y → (x : A) × (r ≡ Ok x) × (f x ≡ Ok y)
bind_ok r f y e = step r (λ x. r ≡ Ok x) f y (λ x is. is) e

-- a test that met no fault
pub passed : {B : Type 0} (b : Bool) (bytes : List ℕ) (f : Unit {0} → Result B ℕ) (y : B) → (checked b bytes >>= f) ≡ Ok y → (b ≡ true) × (f tt ≡ Ok y)
passed b bytes f y e = let s = step (checked b bytes) (λ _. b ≡ true) f y (λ _ is. grind (arith, is)) e in (s.1, s.2)

pub ok_is : {A : Type 0} (x y : A) → ◌≡◌ {A = Result A ℕ} (Ok x) (Ok y) → x ≡ y
ok_is x y e = cc

-- what a reader took from the front
pub record Takes (bytes text rest : List ℕ) : Type 0 where
  pub parts : bytes ≡ text ++ rest
  pub rest_fits : IsBytes rest

pub Takes-then : {a x b y c : List ℕ} → Takes a x b → Takes b y c → Takes a (x ++ y) c
Takes-then {a} {x} {b} {y} {c} p q = record { parts = rw append_assoc (rw q.parts at p.parts); rest_fits = q.rest_fits }

-- what is read is spelled so, and is good
abbrev pub IsRead : {A : Type 0} → (A → List ℕ) → (A → Type 0) → List ℕ → A × List ℕ → Type 0
IsRead spell Good bytes x = Takes bytes (spell x.0) x.1 × Good x.0

abbrev pub Reads : {A : Type 0} → (List ℕ → Result (A × List ℕ) ℕ) → (A → List ℕ) → (A → Type 0) → Type 0
Reads {A} read spell Good = (bytes : List ℕ) (x : A × List ℕ) → IsBytes bytes → read bytes ≡ Ok x → IsRead spell Good bytes x

-- what is good and spelled so is read, whatever follows it
abbrev pub ReadsBack : {A : Type 0} → (List ℕ → Result (A × List ℕ) ℕ) → (A → List ℕ) → (A → Type 0) → Type 0
ReadsBack {A} read spell Good = (x : A) (rest : List ℕ) → Good x → read (spell x ++ rest) ≡ Ok (x, rest)

-- ---- bytes

pub byte_takes : Reads byte_at (λ b. b ∷ []) (λ b. b < 256)
byte_takes [] x fits e = absurd cc
byte_takes (b ∷ bytes) x fits e = rw (← ok_is (b, bytes) x e) (record { parts = refl; rest_fits = λ i. fits (suc i) }, fits 0)

-- ---- numbers

pub number_takes : Reads number_at number (λ n. n < 2 ^ 32)
unfolding number_at
number_takes bytes x fits e =
    let fits4 : IsBytes (take 4 bytes) = IsBytes-take 4 bytes fits in
    let long : 4 ≤ length bytes = grind (arith, nat_tests, e) in
    let is : (from_be_bytes w32 (take 4 bytes), drop 4 bytes) ≡ x = grind (arith, nat_tests, e, long) in
    let back = be_bytes_4 (take 4 bytes) _ (omega (arith, length-take 4 bytes, long)) fits4 refl in
    let below : from_be_bytes w32 (take 4 bytes) < 2 ^ 32 = omega (arith, fits4 0, fits4 1, fits4 2, fits4 3) in
    let parts = sym (ap (λ l. l ++ drop 4 bytes) back ∙ take-append-drop 4 bytes) in
    rw (← is) (record { parts = parts; rest_fits = IsBytes-drop 4 bytes fits }, below)

pub number_again : ReadsBack number_at number (λ n. n < 2 ^ 32)
unfolding number_at
number_again n rest lt = grind (arith, nat_tests, from_be_bytes-to_be_bytes_4 n lt)

-- ---- names

-- the characters of so many bytes
pub characters_takes : (len : ℕ) → Reads (characters_at len) encode_utf8_all (λ n. (length (encode_utf8_all n) ≡ len) × (all_scalars n ≡ true))
unfolding characters_at
characters_takes len bytes x fits e =
    let whole = passed (leb len (length bytes)) bytes _ x e in
    let text = passed (is_utf8 (take len bytes)) bytes _ x whole.1 in
    let utf8 = IsUtf8-from_is_utf8 (take len bytes) text.0 in let same = encodes-chars (take len bytes) utf8 in
    let long : length (encode_utf8_all (chars (take len bytes))) ≡ len = rw same (grind (arith, nat_tests, whole.0, length-take len bytes)) in
    rw (← ok_is (chars (take len bytes), drop len bytes) x text.1) (
      record { parts = rw (same, take-append-drop len bytes) refl; rest_fits = IsBytes-drop len bytes fits },
      (long, scalars-chars (take len bytes) utf8),
    )

-- characters behind the number of their bytes
pub name_parts : (bytes : List ℕ) (l : ℕ × List ℕ) (x : List ℕ × List ℕ) → Takes bytes (number l.0) l.1 → characters_at l.0 l.1 ≡ Ok x
    → IsRead name (λ n. (length (encode_utf8_all n) ≡ l.0) × (all_scalars n ≡ true)) bytes x
name_parts bytes l x front e =
    let read = characters_takes l.0 l.1 x front.rest_fits e in
    (rw read.1.0 (Takes-then front read.0), read.1)

-- a name that may be written
abbrev pub IsGoodName : List ℕ → Type 0
IsGoodName n = IsLawfulName n × (all_scalars n ≡ true)

pub name_takes : Reads name_at name IsGoodName
unfolding name_at
name_takes bytes x fits e =
    let l = step (number_at bytes) _ _ x (λ l. number_takes bytes l fits) e in
    let some = passed (ltb 0 l.0.0) bytes _ x l.2 in
    let n = name_parts bytes l.0 x l.1.0 some.1 in
    (n.0, (record { some = λ none. absurd (grind (arith, nat_tests, some.0, n.1.0, none)); short = omega (arith, l.1.1, n.1.0) }, n.1.1))

-- a name that isn't empty has bytes
pub some_bytes : (n : List ℕ) → n ≢ [] → 0 < length (encode_utf8_all n)
some_bytes [] some = absurd (some refl)
some_bytes (c ∷ cs) some = omega (arith, length-le-encodes (c ∷ cs))

-- the characters that so many bytes spell are read again
pub characters_again : (n rest : List ℕ) → all_scalars n ≡ true → characters_at (length (encode_utf8_all n)) (encode_utf8_all n ++ rest) ≡ Ok (n, rest)
unfolding characters_at
characters_again n rest scalars =
    let text = encode_utf8_all n in
    let utf8 = is_utf8-from_IsUtf8 text (n, (scalars, refl)) in
    let long = le-leb (length text) (length (text ++ rest)) (omega (arith, length-append text rest)) in
    rw (long, take_at text rest (length text) refl, drop_at text rest (length text) refl, utf8, chars-encodes n scalars) refl

pub name_again : ReadsBack name_at name IsGoodName
unfolding name_at
name_again n rest good =
    let some : ltb 0 (length (encode_utf8_all n)) ≡ true = grind (arith, nat_tests, some_bytes n good.0.some) in
    rw (append_assoc, number_again _ (encode_utf8_all n ++ rest) good.0.short, some, characters_again n rest good.1) refl
