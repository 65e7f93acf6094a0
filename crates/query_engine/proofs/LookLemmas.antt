-- Looks: one after another, with rows made between them, in a search, and before a reply.
pub use Rattle.query_engine.proofs.Words.{ℕ, ◌≡◌, ◌≤◌, ◌+◌, ◌/◌, ◌%◌, List, [], ◌∷◌, ◌++◌, map, length, refl, ap, ◌∙◌, append_assoc, arith, Result, Ok, Err}
pub use Rattle.query_engine.proofs.Words.{IsErrAnd, common_steps, length-append, AskRefusal, Cancelled, OutOfMemory, rows_a_look, looks_at, HasLooked}
pub use Rattle.query_engine.proofs.Words.{LooksThrough, StopsUnseen, EndsEarly, Bool, true, false, ◌&&◌, ◌||◌, if◌then◌else◌, filter, sym, OnOk, list_any}
pub use Rattle.query_engine.proofs.Words.{bytes_eq, false≢true, bytes_eq-Decides, is_type, has_super, ListedType, is_asked, asked_supers, each_once, Paces}
pub use Rattle.query_engine.proofs.Words.{AreAmong, fun_ext, cases_Bool, inl, inr, AllByRecursion, on_ok_weaker, ◌≢◌, subst, Option, Some, None}
pub use Rattle.query_engine.proofs.Words.{IsSomeAnd, IsOk, World, lowest_unready, Finding, NotReady, NoAnswer}
pub use Rattle.query_engine.proofs.Words.{not_ready, reply, unless_unready, looks_after, MayLook, later_looks}
pub use Rattle.query_engine.proofs.Words.{HasLookedFor, GivesReply, RepliesTo, le_refl, rules, IfSome, AreAhead, IsListed, itself, place_found, drop, row_of}
pub use Rattle.query_engine.proofs.Words.{listed_at, path_at, stub_at, text_at, AreFrom, meet_all, row_found, AreLive, word_found}
use Rattle.query_engine.proofs.MemberLemmas.{filter_none, bytes_eq_swap}
use Rattle.action_lock.specs.Counts.{counted}
use Rattle.queries.specs.declared.query.Query.{Query}

-- ---- looks, one after another, and rows that are made between them

-- so many more, and others behind them
pub pace_sum : (m m' n k : ℕ) → m' % 256 ≡ (m + n) % 256 → (m % 256 + n) / 256 + (m' % 256 + k) / 256 ≡ (m % 256 + (n + k)) / 256
pace_sum m m' n k same = omega arith

module _ {W : Type 0} {l s : W → ℕ} where
  -- a watch that nobody looked at
  pub looked_not : {n : ℕ} {watch : W} → n ≡ 0 → LooksThrough l s n watch watch
  looked_not none = record { looks = omega arith; unseen = refl }

  -- looks that saw nothing, and then others
  pub looked_through : {a b n : ℕ} {old mid new : W} → a + b ≡ n → LooksThrough l s a old mid → LooksThrough l s b mid new → LooksThrough l s n old new
  looked_through sum p q = record { looks = omega arith; unseen = q.unseen ∙ p.unseen }

  -- running out of memory after looks that saw nothing, where more would lead to the end
  pub looked_unseen : {a b : ℕ} {old new : W} → a ≤ b → LooksThrough l s a old new → StopsUnseen l s b old new
  looked_unseen few p = record { some = omega arith; few = omega arith; unseen = p.unseen }

  -- a call that looks after others did
  pub looked_on : {st : W → W → Type 0} {X : Type 0} {a n : ℕ} {old mid : W} (b : ℕ) (r : Result X AskRefusal) (new : W)
      → ((x y z : W) → st x y → st y z → st x z) → a + b ≡ n → st old mid → LooksThrough l s a old mid → HasLooked l s st r b mid new
      → HasLooked l s st r n old new
  looked_on b (Err OutOfMemory) new on sum kept p q = search (arith, p, q)
  looked_on b (Err Cancelled) new on sum kept p q = search (arith, on, kept, p, q)
  looked_on b r new on sum kept p q = looked_through sum p q

module _ {W : Type 0} (l s : W → ℕ) (st : W → W → Type 0) where
  -- a call that ends early with the refusal of another, where more looks would lead to its end
  pub looked_early : (X Y : Type 0) {a b : ℕ} (r : Result Y AskRefusal) (e : AskRefusal) (old new : W) → IsErrAnd r (λ f. f ≡ e) → EndsEarly e → a ≤ b
      → HasLooked {X = X} l s st (Err e) a old new → HasLooked l s st r b old new
  looked_early X Y (Ok y) e old new told early few q = absurd told
  looked_early X Y (Err f) Cancelled old new told early few q = rw told (search (arith, q))
  looked_early X Y (Err f) OutOfMemory old new told early few q = rw told (search (arith, q))
  looked_early X Y (Err f) e old new told early few q = absurd early

  -- nobody looked, and memory ran out
  pub looked_wanting : {X : Type 0} (n : ℕ) (r : Result X AskRefusal) (watch : W) → IsErrAnd r (λ f. f ≡ OutOfMemory) → HasLooked l s st r n watch watch
  looked_wanting n (Ok x) watch told = absurd told
  looked_wanting n (Err f) watch told = rw told (looked_unseen (omega arith) (looked_not refl))

  -- a count of looks doesn't fall
  pub looked_up : {X : Type 0} (n : ℕ) (r : Result X AskRefusal) (old new : W) → HasLooked l s st r n old new → l old ≤ l new
  looked_up n (Err Cancelled) old new q = q.some
  looked_up n (Err OutOfMemory) old new q = q.some
  looked_up n r old new q = omega (arith, q.looks)

-- Rows are made of the first of all that was found, and others are left; the watch was looked at for these rows.
pub record IsMade {W F R : Type 0} (l s : W → ℕ) (row : F → R) (all : List F) (rows : List R) (left : List F) (old new : W) : Type 0 where
  pub looked : LooksThrough l s (length rows / rows_a_look) old new
  pub few : length rows + length left ≡ length all
  pub made : rows ++ map row left ≡ map row all

module _ {W F R : Type 0} {l s : W → ℕ} {row : F → R} {all : List F} {rows : List R} {x : F} {left left' : List F} {old mid : W}
    (next : left ≡ x ∷ left') (h : IsMade l s row all rows left old mid) where
  -- the look behind one row more
  looks : length rows / rows_a_look + looks_at (length rows + 1) ≡ (length rows + 1) / rows_a_look
  looks = grind (arith, common_steps)

  -- it saw nothing
  pub made_more : {rows' : List R} {new : W} → rows' ≡ rows ++ row x ∷ [] → LooksThrough l s (looks_at (length rows + 1)) mid new
      → IsMade l s row all rows' left' old new
  made_more grown q =
      let more = ap length grown ∙ length-append rows (row x ∷ []) in
      record {
        looked = looked_through (looks ∙ sym (ap (λ n. n / rows_a_look) more)) h.looked q;
        few = omega (arith, more, ap length next, h.few);
        made = cc (grown, append_assoc rows (row x ∷ []) (map row left'), ap (λ xs. rows ++ map row xs) next, h.made);
      }

  -- or the row or the look ends the call
  pub made_stopped : {st : W → W → Type 0} (X : Type 0) {Y : Type 0} (e : AskRefusal) (r : Result Y AskRefusal) (new : W)
      → ((x y z : W) → st x y → st y z → st x z) → st old mid
      → EndsEarly e → HasLooked {X = X} l s st (Err e) (looks_at (length rows + 1)) mid new → IsErrAnd r (λ f. f ≡ e) → HasLooked l s st r (length all / rows_a_look) old new
  made_stopped {st} X e r new on kept early q told =
      looked_early l s st X _ r e old new told early (omega (arith, ap length next, h.few)) (looked_on {X = X} _ (Err e) new on looks kept h.looked q)

-- Of what was found some were met, `met` others before them since the last look, and the rest is left.
pub record HasMet {W F : Type 0} (l s : W → ℕ) (all : List F) (met : ℕ) (left : List F) (met' : ℕ) (old new : W) : Type 0 where
  pub more : ℕ
  pub sum : more + length left ≡ length all
  pub after : met' % rows_a_look ≡ (met + more) % rows_a_look
  pub looked : LooksThrough l s ((met % rows_a_look + more) / rows_a_look) old new

module _ {W F : Type 0} {l s : W → ℕ} {all : List F} {met met' : ℕ} {x : F} {left left' : List F} {old mid : W} (next : left ≡ x ∷ left')
    (h : HasMet l s all met left met' old mid) where
  pub met_next : {met'' : ℕ} {new : W} → met'' % rows_a_look ≡ (met' + 1) % rows_a_look → LooksThrough l s ((met' % rows_a_look + 1) / rows_a_look) mid new
      → HasMet l s all met left' met'' old new
  met_next one q = record {
    more = h.more + 1;
    sum = omega (arith, ap length next, h.sum);
    after = omega (arith, h.after, one);
    looked = looked_through (pace_sum met met' h.more 1 h.after) h.looked q;
  }

  pub met_stop : {st : W → W → Type 0} (X : Type 0) {Y : Type 0} (e : AskRefusal) (r : Result Y AskRefusal) (new : W)
      → ((x y z : W) → st x y → st y z → st x z) → st old mid
      → EndsEarly e → HasLooked {X = X} l s st (Err e) ((met' % rows_a_look + 1) / rows_a_look) mid new → IsErrAnd r (λ f. f ≡ e)
      → HasLooked l s st r ((met % rows_a_look + length all) / rows_a_look) old new
  met_stop {st} X e r new on kept early q told =
      looked_early l s st X _ r e old new told early (omega (arith, ap length next, h.sum))
      (looked_on {X = X} _ (Err e) new on (pace_sum met met' h.more 1 h.after) kept h.looked q)

-- ---- looks of a search, one for each full 256 types that it meets. It meets those that name a name that is asked for, and each name is asked
-- for once

-- the first of names that are among others is, and so are those behind it
pub first_among : {left rest : List (List ℕ)} {name : List ℕ} (all : List (List ℕ)) → left ≡ name ∷ rest → AreAmong left all → AreAmong (name ∷ []) all
first_among all next among other is = among other (rw next (grind (arith, is)))

pub rest_among : {left rest : List (List ℕ)} {name : List ℕ} (all : List (List ℕ)) → left ≡ name ∷ rest → AreAmong left all → AreAmong rest all
rest_among all next among other is = among other (rw next (grind (arith, is)))

-- a wider test keeps as many or more
filter_wider : {X : Type 0} (p q : X → Bool) → ((x : X) → p x ≡ true → q x ≡ true) → (xs : List X) → length (filter p xs) ≤ length (filter q xs)
filter_wider p q wider [] = omega arith
filter_wider p q wider (x ∷ xs) = grind (arith, wider x, filter_wider p q wider xs)

-- names that hold all others are named as often or more
asked_wider : (asked all : List (List ℕ)) → AreAmong asked all → (types : List ListedType) → asked_supers types asked ≤ asked_supers types all
asked_wider asked all among [] = omega arith
asked_wider asked all among (t ∷ ts) =
    omega (arith, asked_wider asked all among ts, filter_wider (λ n. is_asked n asked) (λ n. is_asked n all) among (each_once t.1.supers))

-- the same names are named as often
pub asked_same : (asked asked' : List (List ℕ)) → ((other : List ℕ) → is_asked other asked' ≡ is_asked other asked) → (types : List ListedType)
    → asked_supers types asked' ≡ asked_supers types asked
asked_same asked asked' same [] = refl
asked_same asked asked' same (t ∷ ts) =
    omega (arith, asked_same asked asked' same ts, ap (λ p. length (filter p (each_once t.1.supers))) (fun_ext same))

-- no name is named by none
asked_none : (types : List ListedType) → asked_supers types [] ≡ 0
asked_none [] = refl
asked_none (t ∷ ts) = omega (arith, asked_none ts, ap length (filter_none (λ (n : List ℕ). false) (λ n. refl) (each_once t.1.supers)))

module _ (asked asked' : List (List ℕ)) (name : List ℕ) (asks : (other : List ℕ) → is_asked other asked' ≡ (bytes_eq other name || is_asked other asked)) where
  -- a name that was asked for before
  pub asks_same : is_asked name asked ≡ true → (other : List ℕ) → is_asked other asked' ≡ is_asked other asked
  asks_same was other =
      asks other ∙ elim (cases_Bool (bytes_eq other name)) [
        | inl same ↦ rw (same, (bytes_eq-Decides other name).0 same, was) refl
        | inr apart ↦ rw apart refl
      ]

  -- a name that wasn't, among the names of a type
  cost_of : is_asked name asked ≡ false → (supers : List (List ℕ))
      → (if list_any (bytes_eq name) supers then 1 else 0) + length (filter (λ n. is_asked n asked) (each_once supers))
      ≡ length (filter (λ n. is_asked n asked') (each_once supers))
  cost_of fresh [] = refl
  cost_of fresh (x ∷ xs) = elim (cases_Bool (bytes_eq name x)) [
    | inl same ↦
        let is = (bytes_eq-Decides name x).0 same in
        let new : is_asked x asked ≡ false = rw is at fresh in
        let now : is_asked x asked' ≡ true = asks x ∙ rw ((bytes_eq-Decides x name).1 (sym is)) refl in
        let there : list_any (bytes_eq name) xs ≡ is_asked x xs = rw is refl in
        grind (arith, same, new, now, there, cost_of fresh xs)
    | inr apart ↦
        let other : bytes_eq x name ≡ false = sym (bytes_eq_swap name x) ∙ apart in
        let still : is_asked x asked' ≡ is_asked x asked = asks x ∙ rw other refl in
        grind (arith, apart, still, cost_of fresh xs)
  ]

  -- and among those of types
  pub cost_more : is_asked name asked ≡ false → (types : List ListedType) → AllByRecursion (λ t. is_type t.1 ≡ true) types
      → length (filter (λ t. has_super name t.1) types) + asked_supers types asked ≡ asked_supers types asked'
  cost_more fresh [] typed = refl
  cost_more fresh (t ∷ ts) typed = grind (arith, typed.0, cost_of fresh t.1.supers, cost_more fresh ts typed.1)

module _ {W : Type 0} {l s : W → ℕ} {st : W → W → Type 0} {types : List ListedType} {asked asked' : List (List ℕ)} where
  -- nothing is met
  pub paces_none : {X : Type 0} {x : X} {names : List (List ℕ)} {met : ℕ} {watch : W} → ((other : List ℕ) → is_asked other asked' ≡ is_asked other asked)
      → Paces l s st types names (Ok x) asked met asked' met watch watch
  paces_none same = record {
    reach = asked';
    within = λ all was more name is. was name (sym (same name) ∙ is);
    more = 0;
    sum = omega (arith, asked_same asked asked' same types);
    looked = looked_not (omega arith);
    after = (refl, omega arith);
  }

  -- nothing is met, and memory ran out
  pub paces_wanting : {X : Type 0} (r : Result X AskRefusal) {names : List (List ℕ)} {met met' : ℕ} {watch : W} → IsErrAnd r (λ f. f ≡ OutOfMemory)
      → Paces l s st types names r asked met asked' met' watch watch
  paces_wanting (Ok x) told = absurd told
  paces_wanting {X} (Err f) told = record {
    reach = asked;
    within = λ all was more. was;
    more = 0;
    sum = omega arith;
    looked = looked_wanting l s st {X = X} _ (Err f) _ told;
    after = tt;
  }

  -- the types that name a name are met
  pub paces_met : {X : Type 0} (r : Result X AskRefusal) (name : List ℕ) (more : ℕ) {met met' : ℕ} {old new : W}
      → ((other : List ℕ) → is_asked other asked' ≡ (bytes_eq other name || is_asked other asked))
      → more + asked_supers types asked ≡ asked_supers types asked' → OnOk r (met' % rows_a_look ≡ (met + more) % rows_a_look)
      → HasLooked l s st r ((met % rows_a_look + more) / rows_a_look) old new → Paces l s st types (name ∷ []) r asked met asked' met' old new
  paces_met r name more asks cost after q = record {
    reach = asked';
    within = λ all was one other is. grind (arith, asks other, was other, one other, is);
    more = more;
    sum = cost;
    looked = q;
    after = on_ok_weaker r (λ same. (refl, same)) after;
  }

  module _ {X Y : Type 0} {y : Y} {names names' asked'' : List (List ℕ)} {met met' met'' : ℕ} {old mid new : W} (on : (x y z : W) → st x y → st y z → st x z)
      (kept : st old mid) (p : Paces {X = Y} l s st types names (Ok y) asked met asked' met' old mid) (some : AreAmong names' names) where
    -- one after the other
    pub paces_on : {r : Result X AskRefusal} → Paces l s st types names' r asked' met' asked'' met'' mid new
        → Paces l s st types names r asked met asked'' met'' old new
    paces_on {r} q = record {
      reach = q.reach;
      within = λ all was more. q.within all (subst (λ a. AreAmong a all) p.after.0 (p.within all was more)) (λ name is. more name (some name is));
      more = p.more + q.more;
      sum = omega (arith, p.sum, q.sum, ap (asked_supers types) p.after.0);
      looked = looked_on _ r new on (pace_sum met met' p.more q.more p.after.1) kept p.looked q.looked;
      after = on_ok_weaker r (λ a. (a.0, omega (arith, p.after.1, a.1))) q.after;
    }

    -- where the second ends early, a call that gives its refusal
    pub paces_stopped : {e : AskRefusal} {Z : Type 0} (r : Result Z AskRefusal) → EndsEarly e → IsErrAnd r (λ f. f ≡ e)
        → Paces {X = X} l s st types names' (Err e) asked' met' asked'' met'' mid new → Paces l s st types names r asked met asked'' met'' old new
    paces_stopped (Ok z) ends told q = absurd told
    paces_stopped {e} {Z} (Err f) ends told q =
        let h = paces_on q in record {
          reach = h.reach;
          within = h.within;
          more = h.more;
          sum = h.sum;
          looked = looked_early l s st X Z (Err f) e old new told ends (omega arith) h.looked;
          after = tt;
        }

-- all looks of a search that asks for no other names than these
module _ {W X : Type 0} {l s : W → ℕ} {st : W → W → Type 0} {types : List ListedType} {all asked : List (List ℕ)} {r : Result X AskRefusal} {met : ℕ}
    {old new : W} (p : Paces l s st types all r [] 0 asked met old new) where
  pub looks_few : (0 % rows_a_look + p.more) / rows_a_look ≤ asked_supers types all / rows_a_look
  looks_few =
      let among = p.within all (λ name is. absurd (false≢true is)) (λ name is. is) in
      omega (arith, p.sum, asked_none types, asked_wider p.reach all among types)

  -- it ended early
  pub looks_some : {Y : Type 0} {e : AskRefusal} (r' : Result Y AskRefusal) → EndsEarly e → IsErrAnd r' (λ f. f ≡ e) → r ≡ Err e
      → HasLooked l s st r' (asked_supers types all / rows_a_look) old new
  looks_some {Y} {e} r' ends told is = looked_early l s st X Y r' e old new told ends looks_few (rw is at p.looked)

-- and all of these in the end
pub looks_all : {W X : Type 0} {l s : W → ℕ} {st : W → W → Type 0} {types : List ListedType} {all asked : List (List ℕ)} {x : X} {met : ℕ} {old new : W}
    → Paces {X = X} l s st types all (Ok x) [] 0 asked met old new → ((other : List ℕ) → is_asked other asked ≡ is_asked other all)
    → LooksThrough l s (asked_supers types all / rows_a_look) old new
looks_all {l = l} {s} {types = types} {all} {asked} {old = old} {new} p same =
    let sum : 0 % rows_a_look + p.more ≡ asked_supers types all =
    omega (arith, p.sum, asked_none types, ap (asked_supers types) p.after.0, asked_same all asked same types) in
    subst (λ n. LooksThrough l s (n / rows_a_look) old new) sum p.looked

-- ---- replies, by what is found, and the first look before them

module _ {W : Type 0} {l s : W → ℕ} {st : W → W → Type 0} {world : World} {query : Query} where
  -- a file is unready: it is told, and no look belongs to it but the first
  pub dumb : MayLook world query (1 + 0) → (o : Option ℕ) → ((file : ℕ) → o ≡ Some file → reply world query ≡ Err (not_ready file)) → (watch : W)
      (e : AskRefusal) (r : Result Finding AskRefusal) → IsSomeAnd o (λ file. e ≡ NotReady file) → IsErrAnd r (λ f. f ≡ e)
      → RepliesTo l s st world query r watch watch
  dumb may None tells watch e r h told = absurd h
  dumb may (Some file) tells watch e (Ok x) h told = absurd told
  dumb may (Some file) tells watch e (Err f) h told =
      rw (told ∙ h) record { later = 0; may = may; looked = looked_not refl; answer = tt; refused = tells file refl }

  -- no file is unready, and the call ended early
  pub early : (n : ℕ) {old new : W} → MayLook world query (1 + n) → (X : Type 0) (e : AskRefusal) (r : Result Finding AskRefusal)
      → IsOk (reply world query) → EndsEarly e → HasLooked {X = X} l s st (Err e) n old new → IsErrAnd r (λ f. f ≡ e)
      → RepliesTo l s st world query r old new
  early n may X e (Ok x) smart ends q told = absurd told
  early n may X Cancelled (Err f) smart ends q told = rw told record { later = n; may = may; looked = q; answer = tt; refused = tt }
  early n may X OutOfMemory (Err f) smart ends q told = rw told record { later = n; may = may; looked = q; answer = tt; refused = smart }
  early n may X e (Err f) smart ends q told = absurd ends

  -- no file is unready, and this is all that was found
  pub whole : {given : Finding} {n : ℕ} {old new : W} → MayLook world query (1 + n) → reply world query ≡ Ok given → LooksThrough l s n old new
      → RepliesTo l s st world query (Ok given) old new
  whole {n = n} may is q = record { later = n; may = may; looked = q; answer = is; refused = tt }

  -- a question is this one, and what gives its reply replies to it
  pub replied_as : {this : Query} (r : Result Finding AskRefusal) {old new : W} → query ≡ this → RepliesTo l s st world this r old new
      → RepliesTo l s st world query r old new
  replied_as r is h = rw is h

  pub replied : {this : Query} {expected : Result Finding NoAnswer} {r : Result Finding AskRefusal} {old new : W} → query ≡ this → expected ≡ reply world this
      → MayLook world this (1 + later_looks (reply world this)) → GivesReply l s st expected r old new → RepliesTo l s st world query r old new
  replied {this} {r = r} is same may given =
      let h = rw same at given in
      replied_as r is record { later = later_looks (reply world this); may = may; looked = h.looked; answer = h.answer; refused = h.refused }

  -- the first look saw that the work is to end
  pub stopped_first : (X : Type 0) (e : AskRefusal) (r : Result Finding AskRefusal) (old new : W) → e ≡ Cancelled → IsErrAnd r (λ f. f ≡ e)
      → HasLooked {X = X} l s st (Err e) 1 old new → HasLookedFor l s st world query r old new
  stopped_first X e r old new is told q =
      record { number = 1 + looks_after world query; may = refl; looked = looked_early l s st X Finding r e old new told (rw is tt) (omega arith) q }

  -- the first look saw nothing, and the question was replied to
  pub looked_first : {r : Result Finding AskRefusal} {old mid new : W} → ((x y z : W) → st x y → st y z → st x z) → st old mid
      → LooksThrough l s 1 old mid → RepliesTo l s st world query r mid new → HasLookedFor l s st world query r old new
  looked_first {r} {new = new} on kept p h = record { number = 1 + h.later; may = h.may; looked = looked_on h.later r new on refl kept p h.looked }

  -- so there was a look
  pub counted_first : {r : Result Finding AskRefusal} (old : W) {mid new : W} → l mid ≡ counted (l old) → RepliesTo l s st world query r mid new
      → counted (l old) ≤ l new
  counted_first {r} old {mid} {new} once h = omega (arith, once, looked_up l s st h.later r mid new h.looked)

-- what is answered by rows of what a walk finds is answered by the rows of the files, where the walk finds these if no file is unready
pub told : {F R : Type 0} (world : World) (answer : List R → Finding) (row : F → R) {walk found : List F} {rows : List R}
    → (lowest_unready world ≡ None → walk ≡ found) → map row found ≡ rows
    → unless_unready (lowest_unready world) (answer (map row walk)) ≡ unless_unready (lowest_unready world) (answer rows)
told world answer row ready full = grind (arith, ready, full)

-- a watch that never sees anything stops no call
pub never_stopped : {W : Type 0} {l s : W → ℕ} {st : W → W → Type 0} {world : World} {query : Query} {r : Result Finding AskRefusal} {old new : W}
    → ((watch : W) → s watch ≡ 0) → HasLookedFor l s st world query r old new → r ≢ Err Cancelled
never_stopped {l = l} {s} {st} {old = old} {new} unseen h is =
    let q : HasLooked {X = Finding} l s st (Err Cancelled) h.number old new = rw is at h.looked in
    omega (arith, q.seen, unseen q.before, unseen new)
