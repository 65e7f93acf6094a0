-- Changes that went in behind what a read found, or are refused by it.
use Rattle.ide_calls.proofs.Words.{◌≡◌, ℕ, ◌+◌, ◌≤◌, ◌<◌, List, [], ◌∷◌, Option, Some, None, Result, IfOk, IfErr, rules, length, refl, ap, arith, IfOk-weaker}
use Rattle.ide_calls.proofs.Words.{◌++◌, IfErr-weaker, ◌==◌, option_map, length-append, View, Advances, written, released, HasIntended, Change, Entry, Refusal}
use Rattle.ide_calls.proofs.Words.{max_entries, fold, list_refusal, ListRefusal, IsLegal, entries-fold, hinted, HasReadOnce, filter}
use Rattle.list_laws.proofs.RowLemmas.{count_le}
use Rattle.ide_calls.specs.declared.accepted.Accepted.{Accepted}
use Rattle.ide_calls.specs.declared.group_refusal.GroupChangeRefusal.{GroupChangeRefusal}
use Rattle.ide_calls.specs.declared.group_refusal.GroupChangeRefusal.TheVariants.{Refused, OutOfMemory}
use Rattle.ide_calls.specs.Change.{HasAccepted, HasLeft, HasRefused, IsGroupRefused}
use Rattle.ide_calls.specs.Planned.{IsUnplanned}
use Rattle.ide_calls.proofs.MadeLemmas.{made_by_step, found_by_read, made_behind_read, answered_within, advances_within}

module _ (v u w : View Entry) (entry : Entry) (read : HasReadOnce v u) (is : w ≡ written entry u) where
  -- the entry went in behind all that was seen, where none of its changes is refused
  pub has_accepted : (at : ℕ) → v.number ≡ Some entry.seat → list_refusal (fold u.seen) entry.changes ≡ None → at ≡ (fold u.seen).entries → IsLegal w.seen
      → Advances u w → HasAccepted v w entry.line entry.changes (at + 1)
  has_accepted at own accepted is_at legal later =
      made_by_step _ _ entry.seat own (made_behind_read v u w entry read later is legal) (rw (accepted, is_at, entries-fold u.seen) refl)

  -- the pass has made one entry more
  pub one_made : length w.mine ≡ length v.mine + 1
  one_made = rw (is, length-append u.mine (entry ∷ []), read.learned.mine) refl

  -- the file that is to be indexed after it
  pub has_left : (unready : Option ℕ) → unready ≡ hinted (fold u.seen) entry.changes → HasLeft w entry.changes unready
  has_left unready first = record { before = u.seen; entry = entry; made = refl; seen = rw is refl; is_first = first }

-- a pass has made no more entries than there are: where the history has room for one more, no more than it may have, with that one
pub few_own : (v w : View Entry) (entry : Entry) (seen : List Entry) → v.mine ≡ filter (λ (e : Entry). e.seat == entry.seat) seen
    → seen ≡ v.seen → (fold v.seen).entries < max_entries → w ≡ written entry v → length w.mine ≤ max_entries
few_own v w entry seen mine same room is =
    let own : length v.mine ≤ length seen = rw mine (count_le (λ (e : Entry). e.seat == entry.seat) seen) in
    rw is (omega (arith, own, length-append v.mine (entry ∷ []), ap length same, entries-fold v.seen, room))

-- changes that can't go in behind what the pass has read are refused there
pub is_refused : (seat line : ℕ) (v w : View Entry) (changes : List Change) (refusal : GroupChangeRefusal) → v.number ≡ Some seat
    → IsUnplanned v w changes refusal → IsGroupRefused v w line changes refusal
is_refused seat line v w changes (Refused at place why) own (read, (is_at, first, no_want)) =
    record { answered = made_by_step _ _ seat own (found_by_read v w read) (rw (first, is_at, entries-fold w.seen) refl); no_want = no_want }
is_refused seat line v w changes OutOfMemory own refused = refused

-- the only change of a list stands at its first place
pub refused_one : (v w : View Entry) (line : ℕ) (c : Change) (changes : List Change) (at place : ℕ) (why : Refusal) → changes ≡ c ∷ []
    → HasRefused v w line changes at place why → HasRefused v w line (c ∷ []) at 1 why
refused_one v w line c changes at place why is given =
    let h = rw is at given in
    let refused = ap (λ step. option_map (λ (r : ListRefusal). r.place) step.answer.1) (h.answered.answered.is h.answered.seat h.answered.number) in
    let first : place ≡ 1 = grind (arith, refused) in
    rw first at h

module _ (v inner inner' w : View Entry) (intended : HasIntended v inner) (after : w ≡ released inner') (inside : Advances inner inner')
    (line : ℕ) (changes : List Change) where
  -- what was accepted under an intent of the call
  pub accepted_within : {E : Type 0} (result : Result Accepted E) → IfOk result (λ done. HasAccepted inner inner' line changes done.at)
      → IfOk result (λ done. HasAccepted v w line changes done.at)
  accepted_within result = IfOk-weaker result _ _ (λ done. answered_within v inner inner' w intended after inside)

  -- and what was refused
  refused_so : (refusal : GroupChangeRefusal) → IsGroupRefused inner inner' line changes refusal → IsGroupRefused v w line changes refusal
  refused_so (Refused at place why) h = record { answered = answered_within v inner inner' w intended after inside h.answered; no_want = h.no_want }
  refused_so OutOfMemory h = let advances = advances_within v inner inner' w intended after inside in search (rules, advances, intended, after, h)

  pub refused_within : {A : Type 0} (result : Result A GroupChangeRefusal) → IfErr result (IsGroupRefused inner inner' line changes)
      → IfErr result (IsGroupRefused v w line changes)
  refused_within result = IfErr-weaker result _ _ refused_so

-- a history with room for an entry isn't too long with it
pub bounded_on : (old new : List Entry) (entry : Entry) → new ≡ old ++ entry ∷ [] → (fold old).entries < max_entries → length new ≤ max_entries
bounded_on old new entry is room = rw is (omega (arith, length-append old (entry ∷ []), entries-fold old, room))
