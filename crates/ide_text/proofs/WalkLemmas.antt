-- The line and the column behind a character of a text, and behind a run without a line feed.
use Rattle.std.proofs.Common.{ℕ, zero, suc, ◌≡◌, ◌+◌, ◌-◌, ◌<◌, ◌≤◌, cond, List, [], ◌∷◌, ◌++◌, length, take, drop, get_or, ◌==◌, if◌then◌else◌, refl, arith, get_or-take, get_or-drop, length-take, length-drop, ◌∙◌, eqb-true, Some, None}
use Rattle.std.proofs.lemmas.Bool.Decides.{nat_tests}
use Rattle.std.proofs.lemmas.List.{take_more}
use Rattle.std.proofs.lemmas.List.Sums.{sum_by_more}
use Rattle.memchr.specs.Find.{IsFirstByte, Nowhere, Passes, is_byte}
use Rattle.ide_text.specs.Text.{line_feed}
use Rattle.ide_text.specs.Place.{since_break, line_at, column_at}

-- after one character more the column is 0 or one more
since_break-append : (cs : List ℕ) (n c : ℕ) → since_break n (cs ++ c ∷ []) ≡ (if c == line_feed then 0 else since_break n cs + 1)
since_break-append [] n c = refl
since_break-append (d ∷ cs) n c = grind (arith, since_break-append cs 0 c, since_break-append cs (n + 1) c)

-- behind one character more the line is the same or the next, and the column one more or the first
pub one_more : (text : List ℕ) (i c : ℕ) → i < length text → get_or text i 0 ≡ c
    → (line_at text (i + 1) ≡ line_at text i + (if c == line_feed then 1 else 0))
    × (column_at text (i + 1) ≡ (if c == line_feed then 1 else column_at text i + 1))
one_more text i c less is = (
  omega (arith, rw is at (sum_by_more (λ d. cond (d == line_feed) 1 0) text i 0 less)),
  rw (take_more text i 0 less, is, since_break-append (take i text) 0 c) (grind arith),
)

-- the part of a text from one place up to another: its length, and what stands in it
part_len : (text : List ℕ) (from at : ℕ) → from ≤ at → at ≤ length text → length (take (at - from) (drop from text)) ≡ at - from
part_len text from at ordered inside = rw (length-take (at - from) (drop from text), length-drop from text) (omega arith)

part_at : (text : List ℕ) (from at k : ℕ) → from + k < at → get_or text (from + k) 0 ≡ get_or (take (at - from) (drop from text)) k 0
part_at text from at k less = rw (get_or-take (at - from) (drop from text) k 0 (omega arith), get_or-drop from text k 0) refl

-- behind a run of it without a line feed
past_run : (text : List ℕ) (from at n to : ℕ) → to ≡ from + n → to ≤ at → at ≤ length text
    → Nowhere (Passes (is_byte 10) (take (at - from) (drop from text))) 0 n
    → (line_at text to ≡ line_at text from) × (column_at text to ≡ column_at text from + n)
past_run text from at zero to e ahead inside none = let same : to ≡ from = omega arith in rw same (refl, omega arith)
past_run text from at (suc n) to e ahead inside none =
    let next : to ≡ from + n + 1 = omega arith in
    let before = past_run text from at n (from + n) refl (omega arith) inside (λ k low less. none k low (omega arith)) in
    let more = one_more text (from + n) _ (omega arith) (part_at text from at n (omega arith)) in
    let other = none n (omega arith) (omega arith) in
    rw next (grind (arith, nat_tests, before.0, before.1, more.0, more.1, other))

-- where that part has no line feed
pub past_rest : (text : List ℕ) (from at : ℕ) → from ≤ at → at ≤ length text → IsFirstByte (is_byte 10) (take (at - from) (drop from text)) None
    → (line_at text at ≡ line_at text from) × (column_at text at ≡ column_at text from + (at - from))
past_rest text from at ordered inside none =
    past_run text from at (at - from) at (omega arith) (omega arith) inside (rw (part_len text from at ordered inside) at none)

-- behind the first line feed of that part
pub past_line : (text : List ℕ) (from at found : ℕ) → from ≤ at → at ≤ length text → IsFirstByte (is_byte 10) (take (at - from) (drop from text)) (Some found)
    → (from + found < at) × (line_at text (from + found + 1) ≡ line_at text from + 1) × (column_at text (from + found + 1) ≡ 1)
past_line text from at found ordered inside first =
    let high = first.0.high in let within : from + found < at = omega (arith, part_len text from at ordered inside) in
    let run = past_run text from at found _ refl (omega arith) inside first.0.before in
    let more = one_more text (from + found) 10 (omega arith) (part_at text from at found within ∙ eqb-true _ _ first.1) in
    (within, omega (arith, more.0, run.0), more.1)
