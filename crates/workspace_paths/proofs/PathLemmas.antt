-- What is written of a name is read back, and what is printed of a path is one line.
use Rattle.std.proofs.Common.{◌≡◌, ℕ, ◌/◌, ◌%◌, ◌<◌, Bool, true, false, not, ◌==◌, nat_lt, if◌then◌else◌, List, [], ◌∷◌, ◌++◌, Some, None, IsUtf8, chars, encode_utf8_all, refl, sym, ap, ◌∙◌, arith, inl, inr}
use Rattle.std.specs.Char.{encode_utf8, is_ascii_control}
use Rattle.std.specs.List.{flat_map, list_all}
use Rattle.std.specs.Str.{all_scalars}
use Rattle.std.proofs.lemmas.Bool.{cases_Bool, and_parts, not-true, ltb-true}
use Rattle.std.proofs.lemmas.Bool.Decides.{nat_tests}
use Rattle.std.proofs.lemmas.List.Folds.{list_all-append}
use Rattle.std.proofs.lemmas.Option.{cond_some}
use Rattle.std.proofs.lemmas.Str.{IsUtf8-past_char, chars_past_char}
use Rattle.std.proofs.Math.Utf8.{scalar, low_scalar}
use Rattle.percent_encoding.specs.Percent.{percent_encode_byte}
use Rattle.write_history.specs.Path.{is_path}
use Rattle.workspace_paths.specs.Paths.{digit_of, is_encoded, percent_text, encoded_from, encoded, path_of, is_plain_from, worth_of, is_percent_text, escaped_by, decoded, printed, shown}

-- a percent sign with two digits

-- what stands for a character below 128 is, in UTF-8, what stands for its byte
pub percent_text-encodes : (c : ℕ) → c < 128 → encode_utf8_all (percent_text c) ≡ percent_encode_byte c
unfolding encode_utf8 percent_encode_byte
percent_text-encodes c small = grind (arith, nat_tests)

scalars-percent_text : (c : ℕ) (cs : List ℕ) → c < 128 → all_scalars cs ≡ true → all_scalars (percent_text c ++ cs) ≡ true
scalars-percent_text c cs small ok = grind (arith, nat_tests, ok)

digits-percent_text : (c : ℕ) → c < 128 → is_percent_text 37 (digit_of (c / 16)) (digit_of (c % 16)) ≡ true
digits-percent_text c small = grind (arith, nat_tests)

worth-percent_text : (c : ℕ) → c < 128 → worth_of (digit_of (c / 16)) (digit_of (c % 16)) ≡ c
worth-percent_text c small = grind (arith, nat_tests)

worth-small : (c high low : ℕ) → is_percent_text c high low ≡ true → worth_of high low < 55296
worth-small c high low is = let few = (and_parts _ (nat_lt (worth_of high low) 128) is).1 in omega (arith, ltb-true (worth_of high low) 128 few)

-- which characters stand so

pub encoded-small : (begins : Bool) (c : ℕ) → is_encoded begins c ≡ true → c < 128
encoded-small begins c is = grind (arith, nat_tests)

encoded-no_percent : (begins : Bool) (c : ℕ) → is_encoded begins c ≡ false → (c == 37) ≡ false
encoded-no_percent begins c is = grind (arith, nat_tests)

pub control-small : (c : ℕ) → is_ascii_control c ≡ true → c < 128
control-small c is = grind (arith, nat_tests)

-- reading

-- behind two characters
pub chars_past_two : (bs rest behind : List ℕ) (c d : ℕ) → IsUtf8 bs → bs ≡ encode_utf8 c ++ rest → rest ≡ encode_utf8 d ++ behind
    → (chars bs ≡ c ∷ d ∷ chars behind) × IsUtf8 behind
chars_past_two bs rest behind c d utf8 first second =
    let between = IsUtf8-past_char bs rest c utf8 first in
    let later = chars_past_char rest behind d between second in
    (chars_past_char bs rest c utf8 first ∙ ap (λ cs. c ∷ cs) later, IsUtf8-past_char rest behind d between second)

pub decoded-nil : decoded [] ≡ []
unfolding decoded
decoded-nil = refl

-- any character but a percent sign is read as itself
pub decoded-other : (c : ℕ) (cs : List ℕ) → (c == 37) ≡ false → decoded (c ∷ cs) ≡ c ∷ decoded cs
unfolding decoded
decoded-other c [] other = refl
decoded-other c (d ∷ []) other = refl
decoded-other c (d ∷ e ∷ cs) other = rw other refl

-- what stands for a character is read as that character
decoded-percent_text : (c : ℕ) (cs : List ℕ) → c < 128 → decoded (percent_text c ++ cs) ≡ c ∷ decoded cs
unfolding decoded
decoded-percent_text c cs small = rw (digits-percent_text c small, worth-percent_text c small) refl

none_if : (test : Bool) (x : ℕ) → (if test then Some x else None) ≡ None → test ≡ false
none_if true x is = cc
none_if false x is = refl

-- a percent sign is read with two digits as their character, and else as itself
pub decoded-escaped : (high low c : ℕ) (cs : List ℕ) → escaped_by high low ≡ Some c → decoded (37 ∷ high ∷ low ∷ cs) ≡ c ∷ decoded cs
unfolding decoded
decoded-escaped high low c cs some =
    let (stands, is) = cond_some (is_percent_text 37 high low) (worth_of high low) c some in
    rw (stands, is) refl

pub decoded-percent_two : (high low : ℕ) (cs : List ℕ) → escaped_by high low ≡ None → decoded (37 ∷ high ∷ low ∷ cs) ≡ 37 ∷ decoded (high ∷ low ∷ cs)
unfolding decoded
decoded-percent_two high low cs none = rw (none_if (is_percent_text 37 high low) (worth_of high low) none) refl

pub decoded-percent_one : (c : ℕ) → decoded (37 ∷ c ∷ []) ≡ 37 ∷ decoded (c ∷ [])
unfolding decoded
decoded-percent_one c = refl

pub decoded-percent_end : decoded (37 ∷ []) ≡ 37 ∷ decoded []
unfolding decoded
decoded-percent_end = refl

scalars-decoded : (path : List ℕ) → all_scalars path ≡ true → all_scalars (decoded path) ≡ true
unfolding decoded
scalars-decoded [] ok = refl
scalars-decoded (c ∷ []) ok = ok
scalars-decoded (c ∷ d ∷ []) ok = ok
scalars-decoded (c ∷ high ∷ low ∷ cs) ok =
    let (first, behind) = and_parts (scalar c) (all_scalars (high ∷ low ∷ cs)) ok in
    let last = (and_parts (scalar low) (all_scalars cs) (and_parts (scalar high) (all_scalars (low ∷ cs)) behind).1).1 in
    elim (cases_Bool (is_percent_text c high low)) [
      | inl is ↦ rw (is, low_scalar (worth_of high low) (worth-small c high low is), scalars-decoded cs last) refl
      | inr other ↦ rw (other, first, scalars-decoded (high ∷ low ∷ cs) behind) refl
    ]

-- writing

scalars-encoded_from : (begins : Bool) (name : List ℕ) → all_scalars name ≡ true → all_scalars (encoded_from begins name) ≡ true
scalars-encoded_from begins [] ok = refl
scalars-encoded_from begins (c ∷ cs) ok =
    let (first, behind) = and_parts (scalar c) (all_scalars cs) ok in
    let rest = scalars-encoded_from (c == 47) cs behind in
    elim (cases_Bool (is_encoded begins c)) [
      | inl is ↦ rw is (scalars-percent_text c (encoded_from (c == 47) cs) (encoded-small begins c is) rest)
      | inr other ↦ rw (other, first, rest) refl
    ]

pub scalars-encoded : (name : List ℕ) → all_scalars name ≡ true → all_scalars (encoded name) ≡ true
scalars-encoded = scalars-encoded_from true

-- a name of which nothing is encoded is written as it is
encoded_from-plain : (begins : Bool) (name : List ℕ) → is_plain_from begins name ≡ true → encoded_from begins name ≡ name
encoded_from-plain begins [] plain = refl
encoded_from-plain begins (c ∷ cs) plain =
    let (first, behind) = and_parts (not (is_encoded begins c)) (is_plain_from (c == 47) cs) plain in
    rw (not-true (is_encoded begins c) first, encoded_from-plain (c == 47) cs behind) refl

pub encoded-plain : (name : List ℕ) → is_plain_from true name ≡ true → encoded name ≡ name
encoded-plain = encoded_from-plain true

-- a name is read back from what it is written as
decoded-encoded_from : (begins : Bool) (name : List ℕ) → decoded (encoded_from begins name) ≡ name
decoded-encoded_from begins [] = decoded-nil
decoded-encoded_from begins (c ∷ cs) = elim (cases_Bool (is_encoded begins c)) [
  | inl is ↦ rw (is, decoded-percent_text c (encoded_from (c == 47) cs) (encoded-small begins c is), decoded-encoded_from (c == 47) cs) refl
  | inr other ↦ rw (other, decoded-other c (encoded_from (c == 47) cs) (encoded-no_percent begins c other), decoded-encoded_from (c == 47) cs) refl
]

pub decoded-encoded : (name : List ℕ) → decoded (encoded name) ≡ name
decoded-encoded = decoded-encoded_from true

-- so names that are written alike are the same, and so are those of one path
pub encoded-same : (a b : List ℕ) → encoded a ≡ encoded b → a ≡ b
encoded-same a b alike = sym (decoded-encoded a) ∙ ap decoded alike ∙ decoded-encoded b

path_of-Some : (name path : List ℕ) → path_of name ≡ Some path → encoded name ≡ path
path_of-Some name path some = (cond_some (is_path (encoded name)) (encoded name) path some).1

pub path_of-same : (a b path : List ℕ) → path_of a ≡ Some path → path_of b ≡ Some path → a ≡ b
path_of-same a b path first second = encoded-same a b (path_of-Some a path first ∙ sym (path_of-Some b path second))

-- printing

scalars-printed : (cs : List ℕ) → all_scalars cs ≡ true → all_scalars (flat_map printed cs) ≡ true
scalars-printed [] ok = refl
scalars-printed (c ∷ cs) ok =
    let (first, behind) = and_parts (scalar c) (all_scalars cs) ok in
    let rest = scalars-printed cs behind in
    elim (cases_Bool (is_ascii_control c)) [
      | inl is ↦ rw is (scalars-percent_text c (flat_map printed cs) (control-small c is) rest)
      | inr other ↦ rw (other, first, rest) refl
    ]

pub scalars-shown : (path : List ℕ) → all_scalars path ≡ true → all_scalars (shown path) ≡ true
scalars-shown path ok = scalars-printed (decoded path) (scalars-decoded path ok)

-- no control character is printed
plain-printed : (c : ℕ) → list_all (λ c. not (is_ascii_control c)) (printed c) ≡ true
plain-printed c = grind (arith, nat_tests)

plain-flat_map : (cs : List ℕ) → list_all (λ c. not (is_ascii_control c)) (flat_map printed cs) ≡ true
plain-flat_map [] = refl
plain-flat_map (c ∷ cs) =
    rw (list_all-append (λ c. not (is_ascii_control c)) (printed c) (flat_map printed cs), plain-printed c, plain-flat_map cs) refl

pub plain-shown : (path : List ℕ) → list_all (λ c. not (is_ascii_control c)) (shown path) ≡ true
plain-shown path = plain-flat_map (decoded path)
