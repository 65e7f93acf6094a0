-- The data of each text are lawful, where their names can be spelled.
use Rattle.index_store.proofs.Words.{nat_tests, ◌≡◌, ◌≢◌, ℕ, suc, ◌^◌, ◌<◌, ◌≤◌, true, ltb, List, [], ◌∷◌, length, drop, All, Option, Some, None, Less, Equal}
use Rattle.index_store.proofs.Words.{Greater, refl, ap, arith, encode_utf8_all, length-take, length-drop, fold, bit_or, unwrap_or, cond_both, All-append}
use Rattle.index_store.proofs.Words.{All-from_recursion, All-map, All-nil, filter_passes, recursion_from_All, Contains, AllByRecursion, flat_map, slice_split}
use Rattle.index_store.proofs.Words.{is_lt, match_ordering, all_scalars, insert_entry, and_parts, lt-ltb, ltb-true, Contains-append_right, or_lt, le_or_r}
use Rattle.index_store.proofs.Words.{All-weaken, Stub, IsLawfulName, Context, Code, Comment, String, Token, begins_word, first_passes, characters_of, tokens_of}
use Rattle.index_store.proofs.Words.{is_word, WordRow, bit_of, ends_word, words_at, shown_at, is_identifier_token, is_comment, is_string, occurrences_of}
use Rattle.index_store.proofs.Words.{name_cmp, mask_in, with_occurrence, AreInOrder, listing_of, IsNamedIn, RiseFrom, AllAfter, is_spelled, are_spelled}
use Rattle.index_store.proofs.Words.{word_rises, IsWord, key_rises, IsKey}
use Rattle.std.specs.List.Sorted.{IsStrictlySortedBy}
use Rattle.std.specs.Map.{keys_of as names_of}
use Rattle.java_tokens.specs.Words.{words_in, occurrences_at, words_of}

-- each identifier among the tokens of a text is one whole word
abbrev pub IdentifiersAreWords : Type 0
IdentifiersAreWords = (text : List ℕ) (t : Token) → Contains (tokens_of text) t → is_identifier_token text t ≡ true → is_word (characters_of text t) ≡ true

-- a word that isn't empty, with a mask that has one of three bits and no other
abbrev pub IsMarked : WordRow → Type 0
IsMarked w = (w.0 ≢ []) × (1 ≤ w.1) × (w.1 < 8)

abbrev AreMarked : List WordRow → Type 0
AreMarked ws = AllByRecursion IsMarked ws

-- ---- one occurrence more, and many

insert_marked : (ws : List WordRow) (name : List ℕ) (mask : ℕ) → AreMarked ws → IsMarked (name, mask) → AreMarked (insert_entry name_cmp ws name mask)
insert_marked [] name mask each this = (this, tt)
insert_marked (w ∷ ws) name mask each this =
    elim (name_cmp name w.0) as (λ r. AreMarked (match_ordering r ((name, mask) ∷ w ∷ ws) ((w.0, mask) ∷ ws) (w ∷ insert_entry name_cmp ws name mask))) [
      | Less ↦ (this, each)
      | Equal ↦ ((each.0.0, this.1, this.2), each.1)
      | Greater ↦ (each.0, insert_marked ws name mask each.1 this)
    ]

mask_few : (ws : List WordRow) (name : List ℕ) → AreMarked ws → unwrap_or (mask_in ws name) 0 < 8
mask_few [] name each = omega arith
mask_few (w ∷ ws) name each = grind (arith, each.0.2, mask_few ws name each.1)

fold_marked : (os ws : List WordRow) → AreMarked os → AreMarked ws → AreMarked (fold with_occurrence ws os)
fold_marked [] ws each had = had
fold_marked (o ∷ os) ws each had =
    let old = unwrap_or (mask_in ws o.0) 0 in
    let high : bit_or old o.1 < 8 = or_lt 3 old o.1 (mask_few ws o.0 had) each.0.2 in
    fold_marked os (with_occurrence ws o) each.1 (insert_marked ws o.0 (bit_or old o.1) had (each.0.0, omega (arith, le_or_r old o.1, each.0.1), high))

-- ---- what occurs

marked_by : (place : Context) (n : List ℕ) → n ≢ [] → IsMarked (n, bit_of place)
marked_by place n some = (some, grind (arith, nat_tests), grind (arith, nat_tests))

marked_at : (place : Context) (cs : List ℕ) → All IsMarked (words_at place cs)
unfolding words_in
marked_at place cs =
    let begins = filter_passes (first_passes begins_word) (slice_split ends_word (shown_at place cs)) in
    All-map IsMarked (λ name. (name, bit_of place)) _ (All-weaken (λ name. first_passes begins_word name ≡ true) (λ name. IsMarked (name, bit_of place)) _
    (λ name first. marked_by place name (λ none. absurd (let no_first = rw none at first in cc))) begins)

token_marked : (text : List ℕ) (t : Token) → (is_identifier_token text t ≡ true → is_word (characters_of text t) ≡ true) → All IsMarked (occurrences_at text t)
unfolding occurrences_at
token_marked text t whole =
    let cs = characters_of text t in
    cond_both (is_identifier_token text t) _ _ (All IsMarked)
    (λ named. All-from_recursion IsMarked ((cs, bit_of Code) ∷ []) (marked_by Code cs (λ none. absurd (let no_word = rw none at (whole named) in cc)), tt))
    (λ _. cond_both (is_comment t) _ _ (All IsMarked) (λ _. marked_at Comment cs)
    (λ _. cond_both (is_string t) _ _ (All IsMarked) (λ _. marked_at String cs) (λ _. All-nil IsMarked)))

tokens_marked : (text : List ℕ) (ts : List Token) → ((t : Token) → Contains ts t → is_identifier_token text t ≡ true → is_word (characters_of text t) ≡ true)
    → All IsMarked (flat_map (occurrences_at text) ts)
tokens_marked text [] whole = All-nil IsMarked
tokens_marked text (t ∷ ts) whole =
    All-append IsMarked (occurrences_at text t) (flat_map (occurrences_at text) ts) (token_marked text t (whole t (0, omega arith, refl)))
    (tokens_marked text ts (λ u among. whole u (Contains-append_right (t ∷ []) ts u among)))

word_some : (cs : List ℕ) → is_word cs ≡ true → 0 < length cs
word_some cs word = grind (arith, nat_tests)

-- ---- words and keys, one behind another

spelled_name : (n : List ℕ) → n ≢ [] → is_spelled n ≡ true → IsLawfulName n × (all_scalars n ≡ true)
spelled_name n some spelled =
    let both = and_parts (all_scalars n) (ltb (length (encode_utf8_all n)) (2 ^ 32)) spelled in
    (record { some = some; short = ltb-true (length (encode_utf8_all n)) (2 ^ 32) both.1 }, both.0)

-- words that rise, each of them behind another
words_after : (before : Option WordRow) (ws : List WordRow) → All (λ n. word_rises before n ≡ true) (names_of ws) → AreInOrder ws → AreMarked ws
    → are_spelled ws ≡ true → AllAfter IsWord before ws
unfolding IsStrictlySortedBy
words_after before [] rise ordered each spelled = tt
words_after before (w ∷ ws) rise ordered each spelled =
    let both = and_parts (is_spelled w.0) (are_spelled ws) spelled in
    let named = spelled_name w.0 each.0.0 both.0 in
    let above = All-from_recursion (λ n. name_cmp w.0 n ≡ Less) (names_of ws) ordered.0 in
    let others = All-weaken (λ n. name_cmp w.0 n ≡ Less) (λ n. word_rises (Some w) n ≡ true) (names_of ws) (λ n. ap is_lt) above in
    let is : IsWord before w = record { named = named.0; scalars = named.1; rises = rise 0 w.0 (omega arith); masked = (each.0.1, omega (arith, each.0.2)) } in
    (is, words_after (Some w) ws others ordered.1 each.1 both.1)

-- the words of a text
pub words_lawful : IdentifiersAreWords → (text : List ℕ) → AreInOrder (words_of text) → are_spelled (words_of text) ≡ true
    → AllAfter IsWord None (words_of text)
unfolding words_of
words_lawful whole text ordered spelled =
    let each = recursion_from_All IsMarked (occurrences_of text) (tokens_marked text (tokens_of text) (whole text)) in
    words_after None (words_of text) (λ i d inside. refl) ordered (fold_marked (occurrences_of text) [] each tt) spelled

-- keys whose offsets rise in a text
pub keys_after : (len from : ℕ) (before : Option (List ℕ × ℕ)) (ks : List (List ℕ × ℕ)) → ((place : ℕ) → from ≤ place → key_rises before place ≡ true)
    → RiseFrom from len ks → are_spelled ks ≡ true → AllAfter (IsKey len) before ks
keys_after len from before [] rises rise spelled = tt
keys_after len from before (k ∷ ks) rises rise spelled =
    let both = and_parts (is_spelled k.0) (are_spelled ks) spelled in
    let named = spelled_name k.0 rise.0 both.0 in
    (record { named = named.0; scalars = named.1; rises = rises k.1 rise.1; inside = rise.2 }, keys_after len (suc k.1) (Some k) ks (lt-ltb k.1) rise.3 both.1)

-- declarations that identifiers of a text name stand in the text
pub listing_inside : IdentifiersAreWords → (text : List ℕ) → All (IsNamedIn text) (listing_of text) → All (λ (s : Stub). s.at < length text) (listing_of text)
listing_inside whole text named =
    All-weaken (IsNamedIn text) (λ (s : Stub). s.at < length text) (listing_of text) (λ s is.
    let some = word_some (characters_of text is.token) (whole text is.token is.token_of is.identifier) in
    omega (arith, some, is.place, length-take is.token.len (drop is.token.at text), length-drop is.token.at text)) named
