-- How the words among some characters go on, run by run.
use Rattle.java_tokens.proofs.Common.{take_while-cons, cases_lt, drop_all, common_steps, ◌≡◌, ℕ, suc, ◌+◌, ◌-◌, ◌<◌, Bool, true, false, ◌&&◌, ◌==◌, List, []}
use Rattle.java_tokens.proofs.Common.{◌∷◌, ◌++◌, length, take, drop, refl, sym, ◌∙◌, arith, lit<, inl, inr, fold, list_all, prefix_len, slice_split}
use Rattle.java_tokens.proofs.Common.{cases_Bool, nat_tests, drop-drop, fold-append, is_xid_continue-ascii, Context, String, space, backslash, begins_word}
use Rattle.java_tokens.proofs.Common.{continues_word, first_passes, is_word, WordRow, bit_of, ends_word, words_among, past_escape, shown_at, gap_at, marked}
use Rattle.java_tokens.proofs.Common.{words_at, with_occurrence}
use Rattle.java_tokens.specs.Words.{words_in, without_escapes}
use Rattle.java_tokens.proofs.TokenLemmas.{continues_word-begins}

-- the length of the run at the front
abbrev pub run_len : List ℕ → ℕ
run_len cs = prefix_len continues_word cs

-- a run begins as a word does exactly if what is left does
pub first_passes-run : (cs : List ℕ) → first_passes begins_word (take (run_len cs) cs) ≡ first_passes begins_word cs
first_passes-run [] = refl
first_passes-run (c ∷ cs) = rw (take_while-cons continues_word c cs) (grind (arith, continues_word-begins c))

-- a word begins as one, and each of its characters may go on in a word, the first too
pub is_word-by : (cs : List ℕ) → is_word cs ≡ (first_passes begins_word cs && list_all continues_word cs)
is_word-by [] = refl
is_word-by (c ∷ cs) = grind (arith, continues_word-begins c)

-- where a first character passes there is one
pub first_passes-inside : (test : ℕ → Bool) (at : ℕ) (cs : List ℕ) → first_passes test (drop at cs) ≡ true → at < length cs
first_passes-inside test at cs passes = elim (cases_lt at (length cs)) [
  | inl inside ↦ inside
  | inr past ↦ let none = rw (drop_all at cs past) at passes in absurd (cc)
]

-- behind a backslash and the character that it takes, for which a space stands
words-past_escape : (cs : List ℕ) → words_in (past_escape cs) ≡ words_in (without_escapes (drop 1 cs))
unfolding words_in without_escapes
words-past_escape [] = refl
words-past_escape (c ∷ cs) = rw (is_xid_continue-ascii space (lit< tt)) refl

-- the words behind a run, from the character that ended it
abbrev pub words_behind : Context → List ℕ → List (List ℕ)
words_behind place [] = []
words_behind place (c ∷ cs) = words_in (shown_at place (drop (gap_at place c) (c ∷ cs)))

-- the first run of what is shown, and others with the words behind it
record IsCut (place : Context) (cs run rest : List ℕ) : Type 0 where
  others : List (List ℕ)
  split : slice_split ends_word (shown_at place cs) ≡ run ∷ others
  words : words_among others ≡ words_behind place rest

-- a character that goes on in a word is shown as it is
shown-goes_on : (place : Context) (c : ℕ) (cs : List ℕ) → continues_word c ≡ true → shown_at place (c ∷ cs) ≡ c ∷ shown_at place cs
unfolding without_escapes
shown-goes_on String c cs goes_on = grind (arith, nat_tests, is_xid_continue-ascii backslash (lit< tt))
shown-goes_on place c cs goes_on = refl

-- a character that doesn't ends an empty run
cut-ends : (place : Context) (c : ℕ) (cs : List ℕ) → continues_word c ≡ false → IsCut place (c ∷ cs) [] (c ∷ cs)
unfolding without_escapes words_in
cut-ends String c cs ends = elim (cases_Bool (c == backslash)) [
  | inl escapes ↦
      let ended = is_xid_continue-ascii space (lit< tt) in
      record { others = slice_split ends_word (past_escape cs); split = rw (escapes, ended) refl; words = rw escapes (words-past_escape cs) }
  | inr plain ↦ record { others = slice_split ends_word (without_escapes cs); split = rw (plain, ends) refl; words = rw plain refl }
]
cut-ends place c cs ends = record { others = slice_split ends_word cs; split = rw ends refl; words = refl }

-- the first run, and the words of the others
cut : (place : Context) (cs : List ℕ) → IsCut place cs (take (run_len cs) cs) (drop (run_len cs) cs)
unfolding without_escapes
cut String [] = record { others = []; split = refl; words = refl }
cut place [] = record { others = []; split = refl; words = refl }
cut place (c ∷ cs) = elim (cases_Bool (continues_word c)) [
  | inl goes_on ↦
      let more : run_len (c ∷ cs) ≡ suc (run_len cs) = rw goes_on (omega arith) in
      let rest = cut place cs in
      rw more (record { others = rest.others; split = rw (shown-goes_on place c cs goes_on, goes_on, rest.split) refl; words = rest.words })
  | inr ends ↦ rw ends (cut-ends place c cs ends)
]

-- the words of a run
abbrev words_of_run : Context → List ℕ → List WordRow
words_of_run place run = marked place (words_among (run ∷ []))

-- the words of the first run, and then those behind it
words_at-run : (place : Context) (cs : List ℕ)
    → words_at place cs ≡ words_of_run place (take (run_len cs) cs) ++ marked place (words_behind place (drop (run_len cs) cs))
unfolding words_in
words_at-run place cs =
    let first = cut place cs in
    rw (first.split, ← first.words) (grind (arith, common_steps))

-- what is no part of a word adds no word
pub passed : (place : Context) (at next c : ℕ) (piece : List ℕ) → drop at piece ≡ c ∷ drop (suc at) piece → continues_word c ≡ false
    → next ≡ at + gap_at place c → words_at place (drop next piece) ≡ words_at place (drop at piece)
passed place at next c piece stands ends behind =
    let none : run_len (drop at piece) ≡ 0 = rw (stands, ends) refl in
    sym (words_at-run place (drop at piece) ∙ rw (none, stands, ← stands, drop-drop, ← behind) refl)

-- one turn adds a run, and leaves those behind it
pub turn : (ws new : List WordRow) (place : Context) (at end : ℕ) (piece : List ℕ) → end ≡ at + run_len (drop at piece)
    → new ≡ fold with_occurrence ws (words_of_run place (take (end - at) (drop at piece)))
    → fold with_occurrence new (marked place (words_behind place (drop end piece))) ≡ fold with_occurrence ws (words_at place (drop at piece))
turn ws new place at end piece ends added =
    let width : end - at ≡ run_len (drop at piece) = omega arith in
    rw (added, width, words_at-run place (drop at piece), fold-append, drop-drop, ← ends) refl

-- a run that begins as a word does gives one word
pub added_run : (place : Context) (at end : ℕ) (piece : List ℕ) → end ≡ at + run_len (drop at piece) → first_passes begins_word (drop at piece) ≡ true
    → words_of_run place (take (end - at) (drop at piece)) ≡ (take (end - at) (drop at piece), bit_of place) ∷ []
added_run place at end piece ends begins =
    let width : end - at ≡ run_len (drop at piece) = omega arith in
    rw (width, first_passes-run (drop at piece), begins) refl
