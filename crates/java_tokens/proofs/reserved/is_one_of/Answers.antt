use Rattle.java_tokens.proofs.Common.{◌≡◌, ℕ, true, List, [], ◌∷◌, IsUtf8, refl, sym, ap, ◌∙◌, Bor, list_any, list_all, is_ascii, bytes_eq, chars}
use Rattle.java_tokens.proofs.Common.{ltb-true, and_parts, chars-IsAscii, All-weaker, IsAscii-from_all, AllPass-from_list_all}
use Rattle.std.proofs.lemmas.Bool.Decides.{same_from_decides}
use Rattle.std.proofs.lemmas.Slice.Eq.{bytes_eq-Decides}
use Rattle.std.proofs.lemmas.Str.{encodes-IsAscii, encodes-chars}
use lib.Utf8.{encodes}
use Rattle.java_tokens.proofs.reserved.is_one_of.Goals as goal

-- one of some ASCII words has the bytes of a text exactly if one has its characters
any_word-chars : (words : List (Bor (List ℕ))) (bytes : List ℕ) → list_all (λ word. list_all is_ascii word.now) words ≡ true → IsUtf8 bytes
    → list_any (λ word. bytes_eq word.now bytes) words ≡ list_any (λ word. bytes_eq word.now (chars bytes)) words
any_word-chars [] bytes ascii utf8 = refl
any_word-chars (word ∷ words) bytes ascii utf8 =
    let parts = and_parts (list_all is_ascii word.now) (list_all (λ w. list_all is_ascii w.now) words) ascii in
    let plain = IsAscii-from_all word.now (All-weaker _ _ (λ b h. ltb-true b 128 h) word.now (AllPass-from_list_all is_ascii word.now parts.0)) in
    let by_chars = bytes_eq-Decides word.now (chars bytes) in
    let same = same_from_decides (bytes_eq word.now bytes) (bytes_eq word.now (chars bytes)) (bytes_eq-Decides word.now bytes) (
      (λ same. sym (encodes-IsAscii word.now plain) ∙ ap encodes (by_chars.0 same) ∙ encodes-chars bytes utf8),
      (λ same. by_chars.1 (sym (chars-IsAscii word.now plain) ∙ ap chars same)),
    ) in
    rw (same, any_word-chars words bytes parts.1 utf8) refl

-- the words are ASCII, so their bytes decide
pub returns : goal.returns
returns c = c.contains.ensures.value ∙ any_word-chars c.args.words.now c.args.text.now c.requires c.utf8.text
