-- UTF-8: the order of texts is that of their bytes, and ASCII is its own UTF-8.
use Rattle.std.proofs.Common.{ℕ, ◌≡◌, List, [], length, ◌==◌, ◌∷◌, chars, encode_utf8_all, bytes_eq, nat_cmp, is_eq, IsUtf8, IsAscii, take, drop, refl, ap, sym, arith}
use Rattle.std.specs.Char.{encode_utf8}
use Rattle.std.specs.Cmp.Lexicographic.{slice_cmp}
use Rattle.std.proofs.lemmas.Bool.Decides.{nat_tests}
use Rattle.std.proofs.lemmas.Map.Text.{is_eq-slice_cmp}
use Rattle.std.proofs.lemmas.Str.{encodes-IsAscii, IsAscii-take, IsAscii-drop}
-- passed on to the answers, with what they want besides
pub use Rattle.std.proofs.lemmas.Str.{encodes-chars, scalars-chars, chars-IsAscii, chars_from_encodes}
pub use Rattle.std.proofs.Common.{rules, ◌∙◌}

-- the order of the bytes is that of the characters
pub cmp-encodes : (xs ys : List ℕ) → slice_cmp nat_cmp (encode_utf8_all xs) (encode_utf8_all ys) ≡ slice_cmp nat_cmp xs ys
unfolding encode_utf8
cmp-encodes [] [] = refl
cmp-encodes [] (y ∷ ys) = grind (arith, nat_tests)
cmp-encodes (x ∷ xs) [] = grind (arith, nat_tests)
cmp-encodes (x ∷ xs) (y ∷ ys) = grind (arith, nat_tests, cmp-encodes xs ys)

-- bytes that are UTF-8 are the same where their characters are
pub bytes_eq-chars : (bs ds : List ℕ) → IsUtf8 bs → IsUtf8 ds → bytes_eq bs ds ≡ bytes_eq (chars bs) (chars ds)
bytes_eq-chars bs ds u v =
    rw (encodes-chars bs u, encodes-chars ds v, is_eq-slice_cmp bs ds, is_eq-slice_cmp (chars bs) (chars ds)) at (ap is_eq (cmp-encodes (chars bs) (chars ds)))

-- there are characters where there are bytes
pub empty-encodes : (cs : List ℕ) → (length (encode_utf8_all cs) == 0) ≡ (length cs == 0)
unfolding encode_utf8
empty-encodes [] = refl
empty-encodes (c ∷ cs) = grind (arith, nat_tests)

-- a part of an ASCII text is its own UTF-8, and has itself for its characters
pub encodes-ascii_part : (cs : List ℕ) (from n : ℕ) → IsAscii cs → take n (drop from cs) ≡ encode_utf8_all (take n (drop from cs))
encodes-ascii_part cs from n h = sym (encodes-IsAscii (take n (drop from cs)) (IsAscii-take (drop from cs) n (IsAscii-drop cs from h)))

pub chars-ascii_part : (cs : List ℕ) (from n : ℕ) → IsAscii cs → chars (take n (drop from cs)) ≡ take n (drop from cs)
chars-ascii_part cs from n h = chars-IsAscii (take n (drop from cs)) (IsAscii-take (drop from cs) n (IsAscii-drop cs from h))
