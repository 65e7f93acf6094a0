use Rattle.std.proofs.Common.{length, get_or, eqb, codes, encode_utf8_all, refl, ap, sym, ◌∙◌, rules, arith, append-nil, lit<, inl, inr}
use Rattle.std.specs.Prelude.{◌≡◌, ◌≢◌, ℕ, suc, ◌<◌, true, not, ◌&&◌, List, [], ◌∷◌, ◌++◌, map}
use Rattle.std.specs.Char.{encode_utf8, is_ascii}
use Rattle.std.specs.List.{list_all, slice_split}
use Rattle.std.specs.Str.{chars, bytes_eq}
use Rattle.std.proofs.lemmas.Bool.{cases_Bool, eqb-true, ne_eqb}
use Rattle.std.proofs.lemmas.Bool.Decides.{same_from_decides}
use Rattle.std.proofs.lemmas.Grind.{common_steps}
use Rattle.std.proofs.lemmas.Iterator.Search.{all_from_yields_List}
use Rattle.std.proofs.lemmas.Iterator.Splits.{YieldsList-from_str_split}
use Rattle.std.proofs.lemmas.List.Folds.{list_all-map}
use Rattle.std.proofs.lemmas.Slice.Eq.{bytes_eq-Decides}
use Rattle.std.proofs.lemmas.Str.{encode_ascii, encodes_same, encodes-IsAscii, encodes-chars}
use Rattle.std.proofs.lemmas.Str.Pattern.{NoCharPasses-char}
use Rattle.std.proofs.Math.Path.{fun_ext}
use Rattle.write_history.specs.Path.{parts_of, is_part}
use Rattle.write_history.proofs.path.has_parts.Goals as goal

-- bytes among which no slash stands go before the first part
split-front : (xs ys part : List ℕ) (parts : List (List ℕ)) → slice_split (λ b. eqb b 47) ys ≡ part ∷ parts → ((i : ℕ) → i < length xs → get_or xs i 0 ≢ 47)
    → slice_split (λ b. eqb b 47) (xs ++ ys) ≡ (xs ++ part) ∷ parts
split-front [] ys part parts is none = is
split-front (x ∷ xs) ys part parts is none = rw (ne_eqb x 47 (none 0 (omega arith)), split-front xs ys part parts is (λ i l. none (suc i) (omega arith))) refl

-- the parts of a text in UTF-8 are those of its characters
split-encodes : (cs : List ℕ) → (part : List ℕ) × (parts : List (List ℕ)) × (parts_of cs ≡ part ∷ parts)
    × (slice_split (λ b. eqb b 47) (encode_utf8_all cs) ≡ map encode_utf8_all (part ∷ parts))
split-encodes [] = ([], [], refl, refl)
split-encodes (c ∷ cs) =
    let (part, parts, are, split) = split-encodes cs in
    elim (cases_Bool (eqb c 47)) [
      | inl slash ↦ rw (slash, eqb-true c 47 slash, encode_ascii 47 (lit< tt)) ([], part ∷ parts, ap (λ ps. [] ∷ ps) are, ap (λ ps. [] ∷ ps) split)
      | inr other ↦
          let at = split-front _ _ _ _ split (λ i. NoCharPasses-char 47 (encode_utf8 c) i (c ∷ [], append-nil (encode_utf8 c), (other, tt)) (lit< tt)) in
          rw (other, are) (c ∷ part, parts, refl, at)
    ]

-- a part in UTF-8 is an ASCII text where its characters are
same-encodes : (part text : List ℕ) → list_all is_ascii text ≡ true → bytes_eq (encode_utf8_all part) text ≡ bytes_eq part text
same-encodes part text ascii =
    let is = encodes-IsAscii text (λ i. grind (arith, common_steps, ascii)) in
    let same = bytes_eq-Decides (encode_utf8_all part) text in
    same_from_decides _ _ (λ h. encodes_same part text (same.0 h ∙ sym is), λ e. same.1 (ap encode_utf8_all e ∙ is)) (bytes_eq-Decides part text)

-- parts in UTF-8 all name something where their characters do
all_parts-encodes : (parts : List (List ℕ)) → list_all is_part (map encode_utf8_all parts) ≡ list_all is_part parts
all_parts-encodes parts = list_all-map is_part encode_utf8_all parts ∙ ap (λ p. list_all p parts)
    (fun_ext (λ part i. not (same-encodes part [] refl i) && not (same-encodes part (codes ".") refl i) && not (same-encodes part (codes "..") refl i)))

pub returns : goal.returns
returns c =
    let path = c.args.path.now in
    let (part, parts, are, split) = split-encodes (chars path) in
    all_from_yields_List is_part _ _ _ c.all.ensures.ran
    (YieldsList-from_str_split 47 path (lit< tt) c.split.ensures.text c.split.ensures.has_more c.split.ensures.pattern) (λ x b q k. search rules)
    ∙ cc (encodes-chars path c.utf8.path, split, are, all_parts-encodes (part ∷ parts))
