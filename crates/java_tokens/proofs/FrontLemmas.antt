-- The fronts of names: names are in the order of their fronts, where these differ.
use Rattle.java_tokens.proofs.Common.{nat_tests, ◌≡◌, ℕ, suc, ◌+◌, ◌*◌, ◌<◌, ◌≤◌, List, [], ◌∷◌, ◌++◌, length, refl, ap, arith, lit<, length-append, Less}
use Rattle.java_tokens.proofs.Common.{Greater, encode_utf8_all, encode_utf8, char_from_byte, encode_ascii, length-encode, len_utf8_bounds, name_cmp}
use Rattle.java_tokens.specs.Front.{front_of, weights}
use Rattle.java_tokens.proofs.MaskLemmas.{reversed}
use Rattle.std.proofs.Math.Nat.{suc-mul, mul-le-mul_right}

-- what the digits of some weights come to at most
abbrev top : List ℕ → ℕ
top [] = 0
top (w ∷ ws) = 128 * w

-- each weight is more than all digits behind it come to
abbrev Falls : List ℕ → Type 0
Falls [] = Unit {0}
Falls (w ∷ ws) = (top ws < w) × Falls ws

falls : Falls weights
unfolding weights
falls = (lit< tt, (lit< tt, (lit< tt, (lit< tt, (lit< tt, (lit< tt, (lit< tt, (lit< tt, tt))))))))

-- a lower digit leaves room for a weight
below : (c d w : ℕ) → c < d → c * w + w ≤ d * w
below c d w less = rw (← suc-mul c w) (mul-le-mul_right {m = suc c} {n = d} w (omega (arith, less)))

bounded : (ws cs : List ℕ) → Falls ws → front_of ws cs ≤ top ws
unfolding front_of
bounded [] cs down = omega arith
bounded (w ∷ ws) [] down = omega arith
bounded (w ∷ ws) (c ∷ cs) down = grind (arith, nat_tests, bounded ws cs down.1, down.0, below c 128 w)

-- a first character that isn't lower gives a front that isn't lower, unless the fronts of the others do
not_lower : (w a b : ℕ) (ws xs ys : List ℕ) → Falls (w ∷ ws) → b ≤ a → front_of (w ∷ ws) (a ∷ xs) < front_of (w ∷ ws) (b ∷ ys)
    → (a ≡ b) × (front_of ws xs < front_of ws ys)
unfolding front_of
not_lower w a b ws xs ys down le less = grind (arith, nat_tests, bounded ws ys down.1, down.0, below b a w, below b 128 w)

-- a name with a lower front is lower
lower : (ws xs ys : List ℕ) → Falls ws → front_of ws xs < front_of ws ys → name_cmp xs ys ≡ Less
unfolding front_of
lower [] xs ys down less = absurd (omega arith)
lower (w ∷ ws) xs [] down less = absurd (omega arith)
lower (w ∷ ws) [] (b ∷ ys) down less = refl
lower (w ∷ ws) (a ∷ xs) (b ∷ ys) down less = grind (arith, nat_tests, not_lower w a b ws xs ys down, less, lower ws xs ys down.1)

-- names with different fronts are in the order of these
pub front_less : (xs ys : List ℕ) → front_of weights xs < front_of weights ys → name_cmp xs ys ≡ Less
front_less xs ys less = lower weights xs ys falls less

pub front_greater : (xs ys : List ℕ) → front_of weights ys < front_of weights xs → name_cmp xs ys ≡ Greater
front_greater xs ys more = reversed ys xs Less (front_less ys xs more)

-- a front is a number of 64 bits
pub front_fits : (cs : List ℕ) → front_of weights cs < 18446744073709551616
unfolding weights
front_fits cs = omega (arith, bounded weights cs falls)

-- the front of a name's UTF-8 is that of its characters
pub front-encodes : (ws cs : List ℕ) → front_of ws (encode_utf8_all cs) ≡ front_of ws cs
unfolding front_of
front-encodes [] cs = refl
front-encodes (w ∷ ws) [] = refl
front-encodes (w ∷ ws) (c ∷ cs) =
    let all = encode_utf8 c ++ encode_utf8_all cs in
    elim all as (λ bytes. bytes ≡ all → front_of (w ∷ ws) bytes ≡ front_of (w ∷ ws) (c ∷ cs)) [
      | [] ↦ λ is. absurd (omega (arith, ap length is, length-append (encode_utf8 c) (encode_utf8_all cs), length-encode c, len_utf8_bounds c))
      | b ∷ bs ↦ λ is. grind (arith, nat_tests, is, front-encodes ws cs, encode_ascii c, char_from_byte (b ∷ bs) (encode_utf8_all cs) c is)
    ] refl
