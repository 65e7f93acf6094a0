-- The logical line that goes on somewhere in a text, and how the code reads it: by the character at an offset and what is left behind it.
use Rattle.property_index.proofs.Words.{◌≡◌, ℕ, suc, ◌+◌, Bool, true, false, ◌==◌, List, [], ◌∷◌, ◌++◌, reverse, refl, arith, not, unary_clauses, one-add}
use Rattle.property_index.proofs.Words.{prefix_len, flat_map, nat_tests, reverse-append, line_feed, backslash, is_blank, begins_comment, Placed, Line, in_front}
use Rattle.property_index.proofs.Words.{natural_lines, trimmed, without_last, is_odd, goes_on, listed, continued, keys_in, keys_left, past_line, going_on, zero}
use Rattle.property_index.proofs.Words.{drop, sym, ◌∙◌, append-nil, append_assoc, add-zero, encode_utf8, chars, IsUtf8, chars_from_encodes, encodes-append}
use Rattle.property_index.proofs.Words.{encodes-chars, drop-drop, stops_key, placed_from, listed_key, left_of, width_at, is_join}
use Rattle.property_index.specs.Lines.{logical_lines}
use Rattle.property_index.specs.Rest.{lines_left, inside_from}
use Rattle.property_index.specs.Keys.{key_in}

-- whether a character is a backslash
abbrev is_backslash : Placed → Bool
is_backslash c = c.code == backslash

odd_more : (n : ℕ) → is_odd (1 + n) ≡ not (is_odd n)
odd_more n = rw one-add

-- whether the backslashes at a line's end are odd, which stand at the beginning of the reversed line, goes by its end alone
odd_behind : (line front : Line) → is_odd (prefix_len is_backslash front) ≡ false
    → is_odd (prefix_len is_backslash (line ++ front)) ≡ is_odd (prefix_len is_backslash line)
odd_behind [] front even = even
odd_behind (c ∷ line) front even = grind (arith, odd_more, odd_behind line front even)

-- characters in front make no difference where no odd number of backslashes ends them
goes_on-front : (front : Line) → is_odd (prefix_len is_backslash (reverse front)) ≡ false → (line : Line) → goes_on (front ++ line) ≡ goes_on line
goes_on-front front even line = rw (reverse-append front line) (odd_behind (reverse line) (reverse front) even)

-- without its last character a line stays the same at its front
without_last-char : (c : Placed) (line : Line) → goes_on line ≡ true → without_last (c ∷ line) ≡ c ∷ without_last line
without_last-char c [] on = cc
without_last-char c (d ∷ line) on = simp unary_clauses

-- a character that is neither a line break nor a backslash stands in front of what is left of the line
going_on-char : (c : Placed) (lines : List Line) → (c.code == backslash) ≡ false → going_on (in_front c lines) ≡ (c ∷ (going_on lines).0, (going_on lines).1)
unfolding logical_lines
going_on-char c lines other = grind (arith, goes_on-front (c ∷ []) (grind (arith, nat_tests)), without_last-char c)

going_on-pair : (b c : Placed) (lines : List Line) → (b.code == backslash) ≡ true
    → going_on (in_front b (in_front c lines)) ≡ (b ∷ c ∷ (going_on lines).0, (going_on lines).1)
unfolding logical_lines
going_on-pair b c lines is_one = grind (arith, unary_clauses, goes_on-front (b ∷ c ∷ []) (grind (arith, nat_tests)), without_last-char c)

-- the rest of the line where a character stands in front that is neither a line break nor a backslash, and where a backslash takes another
pub inside-char : (c : Placed) (cs : Line) → (c.code == line_feed) ≡ false → (c.code == backslash) ≡ false
    → inside_from (c ∷ cs) ≡ (c ∷ (inside_from cs).0, (inside_from cs).1)
unfolding inside_from
inside-char c cs in_line other = rw in_line (going_on-char c (natural_lines cs) other)

pub inside-pair : (b c : Placed) (cs : Line) → (b.code == backslash) ≡ true → (c.code == line_feed) ≡ false
    → inside_from (b ∷ c ∷ cs) ≡ (b ∷ c ∷ (inside_from cs).0, (inside_from cs).1)
unfolding inside_from
inside-pair b c cs is_one in_line = grind (arith, nat_tests, in_line, going_on-pair b c (natural_lines cs) is_one)

-- nothing is left of the line at the end, at a line break, and at a backslash that is the last character
pub inside-end : inside_from [] ≡ ([], [])
unfolding inside_from
inside-end = refl

pub inside-break : (c : Placed) (cs : Line) → (c.code == line_feed) ≡ true → inside_from (c ∷ cs) ≡ ([], lines_left cs)
unfolding inside_from lines_left
inside-break c cs is_break = rw is_break refl

pub inside-last : (b : Placed) → (b.code == backslash) ≡ true → inside_from (b ∷ []) ≡ ([], [])
unfolding inside_from logical_lines
inside-last b is_one = grind (arith, nat_tests)

-- the next natural line goes on behind its leading white space
continued-trimmed : (cs : Line) → continued (natural_lines cs) ≡ inside_from (trimmed cs)
unfolding inside_from logical_lines
continued-trimmed [] = refl
continued-trimmed (c ∷ cs) = grind (arith, nat_tests, continued-trimmed cs)

pub inside-join : (b c : Placed) (cs : Line) → (b.code == backslash) ≡ true → (c.code == line_feed) ≡ true → inside_from (b ∷ c ∷ cs) ≡ inside_from (trimmed cs)
unfolding inside_from
inside-join b c cs is_one is_break = grind (arith, nat_tests, continued-trimmed cs)

-- the lines behind the logical line don't depend on white space that leads what is left
pub behind-trimmed : (cs : Line) → (inside_from (trimmed cs)).1 ≡ (inside_from cs).1
behind-trimmed [] = refl
behind-trimmed (c ∷ cs) = grind (arith, nat_tests, inside-char c cs, behind-trimmed cs)

-- white space and a line break give no line
pub keys-blank : (c : Placed) (cs : Line) → is_blank c.code ≡ true → keys_left (c ∷ cs) ≡ keys_left cs
unfolding logical_lines
keys-blank c cs blank = grind (arith, nat_tests)

-- a comment gives no line
pub keys-comment : (c : Placed) (cs : Line) → is_blank c.code ≡ false → begins_comment c.code ≡ true → keys_left (c ∷ cs) ≡ keys_left (past_line cs)
unfolding logical_lines
keys-comment c [] visible begins = grind (arith, nat_tests)
keys-comment c (d ∷ cs) visible begins = grind (arith, nat_tests, keys-comment c cs visible begins)

-- and any other character begins one
pub keys-visible : (c : Placed) (cs : Line) → is_blank c.code ≡ false → begins_comment c.code ≡ false
    → keys_left (c ∷ cs) ≡ flat_map keys_in (listed (inside_from (c ∷ cs)))
unfolding inside_from logical_lines
keys-visible c cs visible other =
    let same : logical_lines (natural_lines (c ∷ cs)) ≡ listed (inside_from (c ∷ cs)) = grind (arith, nat_tests) in rw same

-- what is left some characters on
placed_on : (n at : ℕ) (cs : List ℕ) → placed_from (at + n) (drop n cs) ≡ drop n (placed_from at cs)
placed_on zero at cs = rw add-zero
placed_on (suc n) at [] = refl
placed_on (suc n) at (c ∷ cs) = let same : at + suc n ≡ suc at + n = omega arith in rw same (placed_on n (suc at) cs)

pub left_on : (text : List ℕ) (at n : ℕ) → left_of text (at + n) ≡ drop n (left_of text at)
left_on text at n = rw (← drop-drop n at text) (placed_on n at (drop at text))

-- where the logical line goes on with a backslash and the character that it takes
pub inside_pair : (text : List ℕ) (at : ℕ) (b c : Placed) (xs ys : Line) → is_join (left_of text at) ≡ false → (b.code == backslash) ≡ true
    → left_of text at ≡ b ∷ xs → left_of text (at + 1) ≡ c ∷ ys
    → inside_from (left_of text at) ≡ (b ∷ c ∷ (inside_from (left_of text (at + 2))).0, (inside_from (left_of text (at + 2))).1)
inside_pair text at b c xs ys apart is_one first second =
    let both : left_of text at ≡ b ∷ c ∷ left_of text (at + 2) = cc (left_on text at 1, left_on text at 2) in
    rw both (inside-pair b c (left_of text (at + 2)) is_one (rw (both, is_one) at apart))

-- the lines behind a logical line stay the same behind a character of it, with the one that it takes
pub behind-char : (c : Placed) (cs : Line) → (c.code == line_feed) ≡ false → (inside_from (drop (width_at c.code) (c ∷ cs))).1 ≡ (inside_from (c ∷ cs)).1
behind-char c cs in_line = grind (arith, nat_tests, inside-end, inside-last c, inside-char c, inside-pair c, inside-join c, behind-trimmed)

pub behind_on : (text : List ℕ) (at : ℕ) (c : Placed) (cs : Line) → left_of text at ≡ c ∷ cs → (c.code == line_feed) ≡ false
    → (inside_from (left_of text (at + width_at c.code))).1 ≡ (inside_from (left_of text at)).1
behind_on text at c cs stands in_line = rw (left_on text at (width_at c.code), stands) (behind-char c cs in_line)

-- past a backslash that ends its natural line the logical line goes on behind white space
pub join_next : (left : Line) → is_join left ≡ true → inside_from (trimmed (drop 2 left)) ≡ inside_from left
join_next [] joins = cc
join_next (c ∷ cs) joins = grind (arith, inside-last c, inside-end, inside-join c)

-- where a key ends, and its character where no backslash took it
pub key-stops : (c : Placed) (cs : Line) → (c.code == backslash) ≡ false → stops_key c.code ≡ true → key_in (inside_from (c ∷ cs)).0 ≡ []
unfolding key_in
key-stops c cs other stops = grind (arith, nat_tests, inside-break c cs, inside-char c cs)

pub key-char : (c : Placed) (cs : Line) → (c.code == backslash) ≡ false → stops_key c.code ≡ false
    → key_in (inside_from (c ∷ cs)).0 ≡ c.code ∷ key_in (inside_from cs).0
unfolding key_in
key-char c cs other goes_on = grind (arith, nat_tests, inside-char c cs)

-- the offset of a logical line's first character is where the line goes on
pub keys-here : (at : ℕ) (cs : List ℕ) → is_join (placed_from at cs) ≡ false
    → keys_in (inside_from (placed_from at cs)).0 ≡ listed_key (key_in (inside_from (placed_from at cs)).0) at
unfolding key_in
keys-here at [] apart = grind (arith, inside-end)
keys-here at (c ∷ cs) apart =
    let first : Placed = record { code = c; at = at } in
    grind (arith, inside-break first, inside-char first, inside-pair first)

-- the key of a logical line, and then those of the lines behind it
pub keys-added : (text : List ℕ) (from at end to : ℕ) (old : List (List ℕ × ℕ)) (key : List ℕ)
    → inside_from (left_of text at) ≡ inside_from (left_of text from)
    → is_join (left_of text at) ≡ false
    → key ≡ key_in (inside_from (left_of text at)).0
    → (inside_from (left_of text end)).1 ≡ (inside_from (left_of text at)).1
    → lines_left (left_of text to) ≡ (inside_from (left_of text end)).1
    → (old ++ listed_key key at) ++ keys_left (left_of text to) ≡ old ++ flat_map keys_in (listed (inside_from (left_of text from)))
unfolding lines_left
keys-added text from at end to old key same apart is_key behind goes = rw (← same, append_assoc, is_key, ← keys-here at (drop at text) apart, goes, behind)

-- a string with one more character
pub chars-push : (old new : List ℕ) (c : ℕ) → IsUtf8 old → IsUtf8 new → new ≡ old ++ encode_utf8 c → chars new ≡ chars old ++ c ∷ []
chars-push old new c text text' grown =
    sym (chars_from_encodes (chars old ++ c ∷ []) new text' (encodes-append (chars old) (c ∷ []) ∙ grind (arith, encodes-chars old text, append-nil)))
