-- What the kind of a token at the front says of its length, what lies before the first place of a mark, and how the tokens of a text go on.
use Rattle.java_tokens.proofs.Common.{◌≡◌, ℕ, zero, suc, ◌+◌, ◌-◌, ◌<◌, ◌≤◌, false, List, [], ◌∷◌, length, get_or, drop, refl, ap, ◌∙◌, ⊎_elim, arith}
use Rattle.java_tokens.proofs.Common.{length-drop, All, prefix_len, All-nil, All-cons, drop-drop, drop_all, get_or-drop, prefix_len_stops, cases_lt}
use Rattle.java_tokens.proofs.Common.{is_white_space, Token, token_len, token_at, tokens_of, IsInside, AreTokensFrom, ◌==◌, Option, Some, None, sym, add-one}
use Rattle.java_tokens.proofs.Common.{false_from_ne_true, position_or_len_is, asterisk, begins_with, is_other, comment_end, ◌≢◌, Bool, true, lit<, and_parts}
use Rattle.java_tokens.proofs.Common.{ne_eqb, cond_both, nat_tests, prefix_len-le-length, is_xid_continue-ascii, is_xid_start-is_xid_continue, Word, Number}
use Rattle.java_tokens.proofs.Common.{Str, Char, TextBlock, LineComment, BlockComment, Punct, double_quote, single_quote, dot, backslash, is_in_line}
use Rattle.java_tokens.proofs.Common.{begins_word, continues_word, continues_number, first_passes, line_comment_mark, comment_mark, text_block_mark}
use Rattle.java_tokens.proofs.Common.{begins_number, literal_escape, text_block_escape}
use Rattle.java_tokens.specs.Tokens.{tokens_past}
use Rattle.std.specs.Option.{unwrap_or}
use Rattle.java_tokens.specs.TokenKind.{comment_rest, kind_at, comment_rest, literal_rest, text_block_rest, length_of}
use Rattle.std.proofs.Math.Seq.{drop-cons}
use Rattle.memchr.specs.Find.{IsFirstByte, is_byte}
use Rattle.java_tokens.specs.declared.kind.TokenKind.{TokenKind}

-- what holds of each kind where its row fits holds of the kind at the front
pub by_kind : (P : TokenKind → Type 0) (cs : List ℕ)
    → (begins_with line_comment_mark cs ≡ true → P LineComment) → (begins_with comment_mark cs ≡ true → P BlockComment)
    → (begins_with text_block_mark cs ≡ true → P TextBlock) → (begins_with (double_quote ∷ []) cs ≡ true → P Str)
    → (begins_with (single_quote ∷ []) cs ≡ true → P Char) → (first_passes begins_word cs ≡ true → P Word)
    → (begins_number cs ≡ true → P Number) → P Punct → P (kind_at cs)
unfolding kind_at
by_kind P cs line block text str char word number punct =
    cond_both _ _ _ P line (λ _. cond_both _ _ _ P block (λ _. cond_both _ _ _ P text (λ _. cond_both _ _ _ P str (λ _.
    cond_both _ _ _ P char (λ _. cond_both _ _ _ P word (λ _. cond_both _ _ _ P number (λ _. punct)))))))

-- what may begin a word may go on in one
pub continues_word-begins : (c : ℕ) → begins_word c ≡ true → continues_word c ≡ true
continues_word-begins c begins = grind (arith, nat_tests, is_xid_start-is_xid_continue c, is_xid_continue-ascii 95 (lit< tt))

-- a mark is no longer than what begins with it
begins_with-length : (mark cs : List ℕ) → begins_with mark cs ≡ true → length mark ≤ length cs
begins_with-length [] cs begins = omega arith
begins_with-length (m ∷ mark) [] begins = absurd (cc)
begins_with-length (m ∷ mark) (c ∷ cs) begins = omega (arith, begins_with-length mark cs (and_parts _ _ begins).1)

comment_rest-le : (cs : List ℕ) → comment_rest cs ≤ length cs
unfolding comment_rest
comment_rest-le [] = omega arith
comment_rest-le (c ∷ cs) = cond_both _ _ _ (λ n. n ≤ suc (length cs)) (begins_with-length comment_end (c ∷ cs)) (λ _. omega (arith, comment_rest-le cs))

mutual
  unfolding literal_rest

  literal_rest-le : (quote : ℕ) (cs : List ℕ) → literal_rest quote cs ≤ length cs
  literal_rest-le quote [] = omega arith
  literal_rest-le quote (c ∷ cs) = grind (arith, nat_tests, literal_rest-le quote cs, literal_escape-le quote cs)

  literal_escape-le : (quote : ℕ) (cs : List ℕ) → literal_escape quote cs ≤ length cs
  literal_escape-le quote [] = omega arith
  literal_escape-le quote (c ∷ cs) = grind (arith, nat_tests, literal_rest-le quote cs)

mutual
  unfolding text_block_rest

  text_block_rest-le : (cs : List ℕ) → text_block_rest cs ≤ length cs
  text_block_rest-le [] = omega arith
  text_block_rest-le (c ∷ cs) = grind (arith, nat_tests, text_block_escape-le cs, text_block_rest-le cs, begins_with-length text_block_mark (c ∷ cs))

  text_block_escape-le : (cs : List ℕ) → text_block_escape cs ≤ length cs
  text_block_escape-le [] = omega arith
  text_block_escape-le (c ∷ cs) = omega (arith, text_block_rest-le cs)

-- a run is not empty where its first character passes, and is no longer than what is left
run-fits : (p : ℕ → Bool) (c : ℕ) (cs : List ℕ) → p c ≡ true → (0 < prefix_len p (c ∷ cs)) × (prefix_len p (c ∷ cs) ≤ suc (length cs))
run-fits p c cs passes = (rw passes (omega arith), prefix_len-le-length p (c ∷ cs))

-- a token has a character, and is no longer than what is left
pub length_of-fits : (c : ℕ) (cs : List ℕ) → let n = length_of (kind_at (c ∷ cs)) (c ∷ cs) in (0 < n) × (n ≤ suc (length cs))
unfolding length_of
length_of-fits c cs =
    let all = c ∷ cs in
    let dotted : begins_with (dot ∷ []) all ≡ true → continues_number c ≡ true = λ h. grind (arith, nat_tests) in
    by_kind (λ k. (0 < length_of k all) × (length_of k all ≤ length all)) all
    (λ h. run-fits is_in_line c cs (grind (arith, nat_tests)))
    (λ h. (omega arith, omega (arith, begins_with-length comment_mark all h, comment_rest-le (drop 2 all), length-drop 2 all)))
    (λ h. (omega arith, omega (arith, begins_with-length text_block_mark all h, text_block_rest-le (drop 3 all), length-drop 3 all)))
    (λ _. (omega arith, omega (arith, literal_rest-le double_quote (drop 1 all), length-drop 1 all)))
    (λ _. (omega arith, omega (arith, literal_rest-le single_quote (drop 1 all), length-drop 1 all)))
    (λ h. run-fits continues_word c cs (continues_word-begins c h))
    (λ h. run-fits continues_number c cs (grind (arith, nat_tests, is_xid_continue-ascii c, dotted)))
    (omega arith, omega arith)

-- where a token ends that begins at a place, from the place where its inside begins
pub token_ends : (at : ℕ) (cs : List ℕ)
    → (at + 2 + comment_rest (drop (at + 2) cs) ≡ at + length_of BlockComment (drop at cs))
    × (at + 3 + text_block_rest (drop (at + 3) cs) ≡ at + length_of TextBlock (drop at cs))
    × (at + 1 + literal_rest double_quote (drop (at + 1) cs) ≡ at + length_of Str (drop at cs))
    × (at + 1 + literal_rest single_quote (drop (at + 1) cs) ≡ at + length_of Char (drop at cs))
unfolding length_of
token_ends at cs = (inside 2 comment_rest, inside 3 text_block_rest, inside 1 (literal_rest double_quote), inside 1 (literal_rest single_quote))
  where
    inside : (n : ℕ) (rest : List ℕ → ℕ) → at + n + rest (drop (at + n) cs) ≡ at + (n + rest (drop n (drop at cs)))
    inside n rest = rw (← drop-drop n at cs) (omega arith)

-- a text block that a character doesn't end goes on behind it
pub text_block_rest-goes_on : (at c : ℕ) (cs : List ℕ) → drop at cs ≡ c ∷ drop (suc at) cs → c ≢ backslash
    → begins_with text_block_mark (c ∷ drop (at + 1) cs) ≡ false → at + 1 + text_block_rest (drop (at + 1) cs) ≡ at + text_block_rest (drop at cs)
unfolding text_block_rest
text_block_rest-goes_on at c cs stands plain inside =
    rw (stands, add-one at, ne_eqb c backslash plain, (rw (add-one at) at inside)) (omega arith)

-- a search finds a mark behind all that is none
pub prefix-found : (mark : ℕ) (bs : List ℕ) (found : Option ℕ) → IsFirstByte (is_byte mark) bs found
    → unwrap_or found (length bs) ≡ prefix_len (is_other mark) bs
prefix-found mark bs None none =
    sym (position_or_len_is (λ b. b == mark) bs (length bs) 0 (omega arith)
    (λ k l. false_from_ne_true _ (none k (omega arith) l)) (λ l. absurd (omega arith)))
prefix-found mark bs (Some n) found =
    sym (position_or_len_is (λ b. b == mark) bs n 0 (omega (arith, found.0.high))
    (λ k l. false_from_ne_true _ (found.0.before k (omega arith) l)) (λ l. found.1))

-- a comment goes on over all that is no asterisk
comment_rest-passed : (n : ℕ) (cs : List ℕ) → n ≡ prefix_len (is_other asterisk) cs → n + comment_rest (drop n cs) ≡ comment_rest cs
unfolding comment_rest
comment_rest-passed zero cs is = omega arith
comment_rest-passed (suc n) [] is = omega (arith, is)
comment_rest-passed (suc n) (c ∷ cs) is = grind (arith, nat_tests, is, comment_rest-passed n cs)

-- from a place on
pub comment_rest-skip : (at to : ℕ) (cs : List ℕ) → to ≡ at + prefix_len (is_other asterisk) (drop at cs)
    → to + comment_rest (drop to cs) ≡ at + comment_rest (drop at cs)
comment_rest-skip at to cs is = rw (is, ← drop-drop) (omega (arith, comment_rest-passed _ (drop at cs) refl))

-- behind a character that doesn't end it
pub comment_rest-next : (at c to : ℕ) (cs : List ℕ) → drop at cs ≡ c ∷ drop (suc at) cs → begins_with comment_end (c ∷ drop (at + 1) cs) ≡ false
    → to ≡ at + 1 + prefix_len (is_other asterisk) (drop (at + 1) cs)
    → to + comment_rest (drop to cs) ≡ at + comment_rest (drop at cs)
unfolding comment_rest
comment_rest-next at c to cs stands inside is = comment_rest-skip (at + 1) to cs is ∙ rw (stands, add-one at, (rw (add-one at) at inside)) (omega arith)

-- the rest of the token before may be left out
tokens_past-skip : (skip at : ℕ) (cs : List ℕ) → tokens_past skip at cs ≡ tokens_past 0 (at + skip) (drop skip cs)
unfolding tokens_past
tokens_past-skip zero at cs = ap (λ n. tokens_past 0 n cs) (omega arith)
tokens_past-skip (suc skip) at [] = refl
tokens_past-skip (suc skip) at (c ∷ cs) = tokens_past-skip skip (suc at) cs ∙ ap (λ n. tokens_past 0 n (drop skip cs)) (omega arith)

-- white space may be left out
tokens_past-white_space : (n at : ℕ) (cs : List ℕ) → n ≡ prefix_len is_white_space cs → tokens_past 0 at cs ≡ tokens_past 0 (at + n) (drop n cs)
unfolding tokens_past
tokens_past-white_space zero at cs is = ap (λ k. tokens_past 0 k cs) (omega arith)
tokens_past-white_space (suc n) at [] is = refl
tokens_past-white_space (suc n) at (c ∷ cs) is = grind (arith, nat_tests, is, tokens_past-white_space n (suc at) cs)

-- the first token, and then the others
tokens_past-token : (at c : ℕ) (cs : List ℕ) → is_white_space c ≡ false → let n = token_len (c ∷ cs) in
    tokens_past 0 at (c ∷ cs) ≡ token_at at (c ∷ cs) ∷ tokens_past 0 (at + n) (drop n (c ∷ cs))
unfolding tokens_past
tokens_past-token at c cs visible =
    let n = token_len (c ∷ cs) in
    let more : suc (n - 1) ≡ n = omega (arith, (length_of-fits c cs).0) in
    rw (visible, ← tokens_past-skip n at (c ∷ cs)) (ap (λ k. token_at at (c ∷ cs) ∷ tokens_past k at (c ∷ cs)) more)

-- none is left where the white space reaches the end
pub tokens_past-none : (from at : ℕ) (text : List ℕ) → at ≡ from + prefix_len is_white_space (drop from text)
    → length text ≤ at → tokens_past 0 from (drop from text) ≡ []
unfolding tokens_past
tokens_past-none from at text skipped past = tokens_past-white_space _ from (drop from text) refl ∙ rw (drop-drop, ← skipped, drop_all at text past) refl

-- the first token stands behind the white space, and then the others come
pub tokens_past-next : (from at : ℕ) (text : List ℕ) → at ≡ from + prefix_len is_white_space (drop from text) → at < length text
    → let end = at + token_len (drop at text) in tokens_past 0 from (drop from text) ≡ token_at at (drop at text) ∷ tokens_past 0 end (drop end text)
tokens_past-next from at text skipped inside =
    let visible : is_white_space (get_or text at 0) ≡ false =
    rw (skipped, ← get_or-drop) (prefix_len_stops is_white_space (drop from text) 0 (omega (arith, length-drop from text))) in
    let rest = drop at text in
    let first : tokens_past 0 at rest ≡ token_at at rest ∷ tokens_past 0 (at + token_len rest) (drop (token_len rest) rest) =
    rw (drop-cons text at 0 inside) (tokens_past-token at _ _ visible) in
    tokens_past-white_space _ from (drop from text) refl ∙ rw (drop-drop, ← skipped) (first ∙ rw drop-drop refl)

-- a token that begins inside a text has a character, and ends inside
pub token_len-inside : (at : ℕ) (text : List ℕ) → at < length text → (0 < token_len (drop at text)) × (at + token_len (drop at text) ≤ length text)
token_len-inside at text inside =
    let fits : (0 < token_len (drop at text)) × (token_len (drop at text) ≤ length (drop at text)) = rw (drop-cons text at 0 inside) (length_of-fits _ _) in
    omega (arith, fits.0, fits.1, length-drop at text)

-- the tokens that are left are tokens as the relation says
are_tokens_within : (fuel from : ℕ) (text : List ℕ) → length text ≤ from + fuel → AreTokensFrom from text (tokens_past 0 from (drop from text))
unfolding tokens_past
are_tokens_within zero from text enough = let none = drop_all from text (omega arith) in rw none (rw none refl)
are_tokens_within (suc fuel) from text enough =
    let at = from + prefix_len is_white_space (drop from text) in
    ⊎_elim
    (λ inside.
    let rest = are_tokens_within fuel (at + token_len (drop at text)) text (omega (arith, (token_len-inside at text inside).0)) in
    rw (tokens_past-next from at text refl inside) ((λ none. let some = drop-cons text at 0 inside in cc), refl, rest))
    (λ past. rw (tokens_past-none from at text refl past) (drop-drop _ from text ∙ drop_all at text past))
    (cases_lt at (length text))

-- the tokens of a text are its tokens as the relation says
pub are_tokens_of : (text : List ℕ) → AreTokensFrom 0 text (tokens_of text)
are_tokens_of text = are_tokens_within (length text) 0 text (omega arith)

-- the first of some tokens begins inside the text
pub first-inside : (from : ℕ) (text : List ℕ) (t : Token) (ts : List Token) → AreTokensFrom from text (t ∷ ts)
    → from + prefix_len is_white_space (drop from text) < length text
first-inside from text t ts are = ⊎_elim (λ inside. inside) (λ past. absurd (are.0 (drop_all _ text past))) (cases_lt _ (length text))

-- what holds of each token that begins inside a text holds of each of its tokens
pub each_token : (P : Token → Type 0) (text : List ℕ) → ((at : ℕ) → at < length text → P (token_at at (drop at text))) → All P (tokens_of text)
each_token P text holds = along 0 (tokens_of text) (are_tokens_of text)
  where
    along : (from : ℕ) (ts : List Token) → AreTokensFrom from text ts → All P ts
    along from [] are = All-nil P
    along from (t ∷ ts) are =
        All-cons P t ts (rw are.1 (holds _ (first-inside from text t ts are))) (along (from + prefix_len is_white_space (drop from text) + t.len) ts are.2)

-- each token of a text is inside it
pub inside_tokens_of : (text : List ℕ) → All (IsInside text) (tokens_of text)
inside_tokens_of text = each_token (IsInside text) text (λ at inside. token_len-inside at text inside)
