-- What a path ends in.
pub use Rattle.std.proofs.Common.{codes, refl, arith}
use Rattle.std.proofs.Common.{◌≡◌, ℕ, ◌-◌, ◌+◌, Bool, true, false, List, length, take, drop, encode_utf8_all, ap, sym, None}
use Rattle.std.specs.Prelude.{MatchBool}
use Rattle.std.specs.Char.{is_ascii}
use Rattle.std.specs.Cmp.Lexicographic.{bytes_decides}
use Rattle.std.specs.List.{list_all}
use Rattle.std.specs.Str.{chars, IsUtf8, IsAscii}
use Rattle.std.specs.Str.Pattern.{HasSuffixMatch, FindsTextSuffix}
use Rattle.std.proofs.lemmas.Bool.{false_from_ne_true}
use Rattle.std.proofs.lemmas.Grind.{common_steps}
use Rattle.std.proofs.lemmas.List.{drop-drop, length-drop, take-append-drop}
use Rattle.std.proofs.lemmas.List.Prefix.{end_rest}
use Rattle.std.proofs.lemmas.Str.{encodes-append, encodes-chars, encodes-IsAscii, chars-append, chars-IsAscii, IsUtf8-take}
use Rattle.dumb_mode.specs.Filter.{ends_in, is_java, is_properties}

-- what is tested to be ASCII is so at each place
ascii_at : (word : List ℕ) → list_all is_ascii word ≡ true → IsAscii word
ascii_at word ascii i = grind (arith, common_steps, ascii)

-- a text ends in an ASCII extension where its characters do
pub ends_text : (extension bs : List ℕ) → list_all is_ascii extension ≡ true → IsUtf8 bs → (r : Bool)
    → MatchBool r (HasSuffixMatch (FindsTextSuffix extension) bs) (FindsTextSuffix extension bs None) → r ≡ ends_in extension (chars bs)
ends_text extension bs ascii u true found =
    let front = take (length bs - found.0) bs in
    let parts = chars-append front extension (IsUtf8-take bs (length bs - found.0) u found.3) in
    sym ((bytes_decides _ extension).1 (end_rest _ extension (chars front) (cc (found.1.1, parts, chars-IsAscii extension (ascii_at extension ascii)))))
ends_text extension bs ascii u false absent = sym (false_from_ne_true _ (λ ends.
    let cs = chars bs in
    let n = length cs - length extension in
    let tail : encode_utf8_all (drop n cs) ≡ extension = cc ((bytes_decides _ extension).0 ends, encodes-IsAscii extension (ascii_at extension ascii)) in
    absent (encode_utf8_all (take n cs)) (cc (encodes-chars bs u, take-append-drop n cs, encodes-append (take n cs) (drop n cs), tail))))

-- a path that ends in `.properties` doesn't end in `.java`
pub one_ending : (path : List ℕ) → is_properties path ≡ true → is_java path ≡ false
one_ending path ends =
    let tail = (bytes_decides (drop (length path - 11) path) (codes ".properties")).0 ends in
    let at : length path - 5 ≡ (length path - 11) + 6 = omega (arith, ap length tail, length-drop (length path - 11) path) in
    rw (at, ← drop-drop 6 (length path - 11) path, tail) refl
