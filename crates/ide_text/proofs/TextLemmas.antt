-- Texts: what spells one, and that one with a piece put in or taken out is one.
use Rattle.std.proofs.Common.{ℕ, ◌≡◌, ◌+◌, ◌≤◌, Bool, false, List, [], ◌∷◌, ◌++◌, length, take, drop, IsTrue, All, chars, encode_utf8_all, IsUtf8, ◌==◌, Ok, refl, arith, length-append, length-take, length-drop}
pub use Rattle.std.proofs.Common.{rules}
use Rattle.std.specs.Char.{IsScalar, encode_utf8}
use Rattle.std.specs.List.{list_any}
use Rattle.std.specs.Str.{all_scalars}
use Rattle.std.specs.Cmp.{second_so}
use Rattle.std.proofs.lemmas.Bool.{and_parts, and_from, le-leb}
use Rattle.std.proofs.lemmas.Bool.Decides.{nat_tests}
use Rattle.std.proofs.lemmas.List.Elements.{All-nil, All-cons, All-head, All-tail, All-append, All-take, All-drop}
use Rattle.std.proofs.lemmas.List.Folds.{list_any-append}
use Rattle.std.proofs.lemmas.Str.{is_utf8-from_IsUtf8, chars-encodes}
use lib.Utf8.{scalar}
use Rattle.ide_text.specs.Text.{carriage_return, max_chars, repaired, repaired_after, sized_text, text_of, HasNoReturn, IsText}

-- a character that a text may have
abbrev IsFine : ℕ → Type 0
IsFine c = IsScalar c × ((c == carriage_return) ≡ false)

-- each character of some is fine
each_fine : (cs : List ℕ) → IsTrue (all_scalars cs) → HasNoReturn cs → All IsFine cs
each_fine [] s n = All-nil IsFine
each_fine (c ∷ cs) s n = let both = and_parts _ _ s in All-cons IsFine c cs (both.0, n.0) (each_fine cs both.1 n.1)

-- and so all of them are
all_fine : (cs : List ℕ) → All IsFine cs → IsTrue (all_scalars cs) × HasNoReturn cs
all_fine [] h = (refl, tt)
all_fine (c ∷ cs) h =
    let one = All-head IsFine c cs h in let more = all_fine cs (All-tail IsFine c cs h) in (and_from _ _ one.0 more.0, (one.1, more.1))

-- so few enough of them are a text
text_from : (cs : List ℕ) → length cs ≤ max_chars → All IsFine cs → IsText cs
text_from cs few h = let all = all_fine cs h in record { few = few; scalars = all.0; no_return = all.1 }

-- a text with another put in is a text, where they are few enough together
pub IsText-with_piece : (at : ℕ) (piece text : List ℕ) → IsText piece → IsText text → at ≤ length text
    → length text + length piece ≤ max_chars → IsText (take at text ++ piece ++ drop at text)
IsText-with_piece at piece text p t inside fits =
    let each = each_fine text t.scalars t.no_return in
    text_from _
    (omega (arith, length-append (take at text ++ piece) (drop at text), length-append (take at text) piece, length-take at text, length-drop at text))
    (All-append IsFine _ _ (All-append IsFine _ _ (All-take IsFine at text each) (each_fine piece p.scalars p.no_return)) (All-drop IsFine at text each))

-- a text with a part taken out is a text
pub IsText-without_part : (from to : ℕ) (text : List ℕ) → IsText text → from ≤ to → to ≤ length text → IsText (take from text ++ drop to text)
IsText-without_part from to text t ordered inside =
    let each = each_fine text t.scalars t.no_return in let few = t.few in
    text_from _ (omega (arith, few, length-append (take from text) (drop to text), length-take from text, length-drop to text))
    (All-append IsFine _ _ (All-take IsFine from text each) (All-drop IsFine to text each))

-- a part of a text is read back from UTF-8
pub chars-part : (bytes text : List ℕ) (from n : ℕ) → IsText text → bytes ≡ encode_utf8_all (take n (drop from text)) → chars bytes ≡ take n (drop from text)
chars-part bytes text from n t e =
    let each = All-take IsFine n (drop from text) (All-drop IsFine from text (each_fine text t.scalars t.no_return)) in
    rw e (chars-encodes (take n (drop from text)) (all_fine _ each).0)

-- scalar values whose line breaks are repaired are fine
pub repaired_fine : (after_return : Bool) (cs : List ℕ) → IsTrue (all_scalars cs)
    → IsTrue (all_scalars (repaired_after after_return cs)) × HasNoReturn (repaired_after after_return cs)
repaired_fine after_return [] h = (refl, tt)
repaired_fine after_return (c ∷ cs) h =
    let more = repaired_fine (c == carriage_return) cs (second_so (scalar c) (all_scalars cs) h) in grind (arith, h, more.0, more.1)

-- characters without a carriage return need no repair
pub repaired-none : (cs : List ℕ) → HasNoReturn cs → repaired cs ≡ cs
repaired-none [] none = refl
repaired-none (c ∷ cs) none = grind (arith, none.0, repaired-none cs none.1)

-- bytes without a carriage return spell none
pub HasNoReturn-spelled : (cs : List ℕ) → list_any (λ b. b == carriage_return) (encode_utf8_all cs) ≡ false → HasNoReturn cs
unfolding encode_utf8
HasNoReturn-spelled [] none = tt
HasNoReturn-spelled (c ∷ cs) none =
    grind (arith, nat_tests, none, list_any-append (λ b. b == carriage_return) (encode_utf8 c) (encode_utf8_all cs), HasNoReturn-spelled cs)

-- bytes that are UTF-8 spell a text unless it is too long
pub text_of-spelled : (bytes cs : List ℕ) → IsUtf8 bytes → cs ≡ repaired (chars bytes) → text_of bytes ≡ sized_text cs
text_of-spelled bytes cs u e = rw (is_utf8-from_IsUtf8 bytes u, e) refl

-- the characters of a text are read as that text
pub text_again : (cs : List ℕ) → IsText cs → text_of (encode_utf8_all cs) ≡ Ok cs
text_again cs is =
    let utf8 = is_utf8-from_IsUtf8 (encode_utf8_all cs) (cs, (is.scalars, refl)) in
    rw (utf8, chars-encodes cs is.scalars, repaired-none cs is.no_return, le-leb (length cs) max_chars is.few) refl
