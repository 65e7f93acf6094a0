-- A line is written piece by piece, the commands are drawn one by one, and the script is no longer than it may be.
use Rattle.std.proofs.Common.{◌≡◌, ℕ, zero, suc, ◌+◌, ◌*◌, ◌%◌, ◌<◌, ◌≤◌, Bool, List, [], ◌∷◌, ◌++◌}
use Rattle.std.proofs.Common.{length, filter, codes, decimal, append_assoc, arith, length-append, refl}
use Rattle.std.specs.List.{flat_map}
use Rattle.std.proofs.Math.Nat.{mod-lt}
use Rattle.std.proofs.lemmas.Fmt.{length-decimal-le}
use Rattle.demo.specs.declared.command.Command.{Command}
use Rattle.demo.specs.declared.command.Verb.{Verb}
use Rattle.demo.specs.declared.command.Verb.TheVariants.{Create, Write}
use Rattle.demo.specs.Draws.{after_draw, draw_of, number_of, state_after}
use Rattle.demo.specs.Line.{letter_of, line_of, word_of}
use Rattle.demo.specs.Commands.{create_of, creates, edit_after, edit_by, edits, is_of_first_lane, is_of_second_lane}
use Rattle.demo.specs.Script.{demo_bytes, edits_of, last_section, lines_of, max_len}

-- ---- a line

-- the pieces as they are written, and as the definition joins them
regroup : (out w s g f j q k e p v l m z t : List ℕ) → out ++ w ++ ((s ++ g) ++ f) ++ ((j ++ (q ++ k)) ++ f) ++ (e ++ p) ++ v ++ (l ++ m) ++ (z ++ t)
    ≡ out ++ (w ++ s ++ (g ++ f ++ j) ++ q ++ (k ++ f ++ e ++ p ++ v ++ (l ++ m) ++ z) ++ t)
regroup out w s g f j q k e p v l m z t = simp append_assoc

-- the line is written piece by piece
pub line_written : (command : Command) (out out1 out2 out3 out4 out5 out6 out7 : List ℕ)
    → out1 ≡ out ++ word_of command.verb → out2 ≡ out1 ++ (codes " G" ++ decimal command.file)
    → out3 ≡ out2 ++ (codes ".java \"class G" ++ decimal command.file) → out4 ≡ out3 ++ (codes " extends G" ++ decimal command.parent)
    → out5 ≡ out4 ++ codes " { void " → out6 ≡ out5 ++ (letter_of command.verb ++ decimal command.method) → out7 ≡ out6 ++ codes "() {} }\"\n"
    → out7 ≡ out ++ line_of command
line_written command out out1 out2 out3 out4 out5 out6 out7 e1 e2 e3 e4 e5 e6 e7 =
    rw (e7, e6, e5, e4, e3, e2, e1)
    (regroup out (word_of command.verb) (codes " ") (codes "G") (decimal command.file) (codes ".java") (codes " \"") (codes "class G") (codes " extends G")
    (decimal command.parent) (codes " { void ") (letter_of command.verb) (decimal command.method) (codes "() {} }") (codes "\"\n"))

digits : (n : ℕ) → n < 100000 → length (decimal n) ≤ 5
digits n small = length-decimal-le 5 n (omega arith) small (omega arith)

words-short : (verb : Verb) → (length (word_of verb) ≤ 6) × (length (letter_of verb) ≤ 1)
words-short Create = (omega arith, omega arith)
words-short Write = (omega arith, omega arith)

pieces : (w s g f j q k e p v l m z t : List ℕ) → length (w ++ s ++ (g ++ f ++ j) ++ q ++ (k ++ f ++ e ++ p ++ v ++ (l ++ m) ++ z) ++ t)
    ≡ length w + length s + (length g + length f + length j) + length q
    + (length k + length f + length e + length p + length v + (length l + length m) + length z) + length t
pieces w s g f j q k e p v l m z t = simp length-append

-- where its numbers have at most five digits
line-short : (c : Command) → c.file < 100000 → c.parent < 100000 → c.method < 100000 → length (line_of c) ≤ 100
line-short c file parent method =
    let words = words-short c.verb in
    let whole = pieces (word_of c.verb) (codes " ") (codes "G") (decimal c.file) (codes ".java") (codes " \"") (codes "class G") (codes " extends G")
    (decimal c.parent) (codes " { void ") (letter_of c.verb) (decimal c.method) (codes "() {} }") (codes "\"\n") in
    omega (arith, words.0, words.1, digits c.file file, digits c.parent parent, digits c.method method, whole)

-- ---- the commands

-- one edit more, and the state after its draws
pub edit_more : (from files n now then d e after : ℕ) (old new : List Command) → old ≡ edits from files n → now ≡ state_after from (2 * n)
    → d ≡ number_of (after_draw now) → then ≡ after_draw now → e ≡ number_of (after_draw then) → after ≡ after_draw then
    → new ≡ old ++ edit_by (1 + d % files) e (n + 1) ∷ [] → (new ≡ edits from files (n + 1)) × (after ≡ state_after from (2 * (n + 1)))
edit_more from files n now then d e after old new is state first mid second last grown =
    let next : n + 1 ≡ suc n = omega arith in
    let twice : 2 * (n + 1) ≡ suc (suc (2 * n)) = omega arith in
    (rw (grown, second, first, mid, is, state, next) refl, rw (last, mid, state, twice) refl)

pub length-creates : (seed n : ℕ) → length (creates seed n) ≡ n
length-creates seed zero = refl
length-creates seed (suc n) = omega (arith, length-append (creates seed n) (create_of seed (suc n) ∷ []), length-creates seed n)

pub length-edits : (state files n : ℕ) → length (edits state files n) ≡ n
length-edits state files zero = refl
length-edits state files (suc n) = omega (arith, length-append (edits state files n) (edit_after state files n ∷ []), length-edits state files n)

-- ---- the script

-- one short text more, of all and of those that pass a test
text_more : {X : Type 0} (text : X → List ℕ) (xs : List X) (x : X) → length (text x) ≤ 100
    → length (flat_map text (xs ++ x ∷ [])) ≤ 100 + length (flat_map text xs)
text_more text [] x short = omega (arith, length-append (text x) [])
text_more text (y ∷ xs) x short = omega (arith, length-append (text y), text_more text xs x short)

passed_more : {X : Type 0} (text : X → List ℕ) (p : X → Bool) (xs : List X) (x : X) → length (text x) ≤ 100
    → length (flat_map text (filter p (xs ++ x ∷ []))) ≤ 100 + length (flat_map text (filter p xs))
passed_more text p [] x short = grind (arith, length-append (text x) [])
passed_more text p (y ∷ xs) x short = grind (arith, length-append (text y), passed_more text p xs x short)

creates-short : (seed n : ℕ) → n ≤ 10000 → length (lines_of (creates seed n)) ≤ 100 * n
creates-short seed zero few = omega arith
creates-short seed (suc n) few =
    let parent : draw_of seed (suc n) % suc n < suc n = mod-lt (draw_of seed (suc n)) (omega arith) in
    let line = line-short (create_of seed (suc n)) (omega arith) (omega arith) (omega arith) in
    omega (arith, text_more line_of (creates seed n) (create_of seed (suc n)) line, creates-short seed n (omega arith))

edits-short : (p : Command → Bool) (state files n : ℕ) → 0 < files → files ≤ 10000 → n ≤ 50000 → length (lines_of (filter p (edits state files n))) ≤ 100 * n
edits-short p state files zero some few fits = omega arith
edits-short p state files (suc n) some few fits =
    let file : draw_of state (suc (2 * n)) % files < files = mod-lt (draw_of state (suc (2 * n))) some in
    let parent : (edit_after state files n).parent < (edit_after state files n).file = mod-lt (draw_of state (suc (suc (2 * n)))) (omega arith) in
    let line = line-short (edit_after state files n) (omega arith) (omega arith) (omega arith) in
    omega (arith, passed_more line_of p (edits state files n) (edit_after state files n) line, edits-short p state files n some few (omega arith))

sections : (prelude lane first second last : List ℕ) → length (prelude ++ lane ++ first ++ lane ++ second ++ last)
    ≡ length prelude + length lane + length first + length lane + length second + length last
sections prelude lane first second last = simp length-append

pub demo-short : (seed files count : ℕ) → 0 < files → files ≤ 10000 → count ≤ 50000 → length (demo_bytes seed files count) ≤ max_len
demo-short seed files count some few fits =
    let short = λ (p : Command → Bool). edits-short p (state_after seed files) files count some few fits in
    let lane = λ (p : Command → Bool). lines_of (filter p (edits_of seed files count)) in
    let whole = sections (lines_of (creates seed files)) (codes "lane\n") (lane is_of_first_lane) (lane is_of_second_lane) last_section in
    omega (arith, whole, creates-short seed files few, short is_of_first_lane, short is_of_second_lane)
