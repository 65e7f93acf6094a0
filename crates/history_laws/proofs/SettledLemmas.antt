-- What a settle leaves: no unready file, or a history that is full; and what it adds.
use Rattle.history_laws.proofs.Words.{rules, ℕ, ◌≡◌, ◌≤◌, List, [], ◌∷◌, ◌++◌, length, Option, Some, None, refl, append_assoc, arith, IsSome, AllByRecursion}
use Rattle.history_laws.proofs.Words.{append-nil, Intake, Entry, Refusal, HistoryFull, file_of, lowest_unready, unready_ids, max_entries, stamp_of, fold}
use Rattle.history_laws.proofs.Words.{list_refusal, IsLegal, Settled, entry_of, intake_of, intake_entry, settled_from, settled, nat_le, leb-true, cases_Bool}
use Rattle.history_laws.proofs.Words.{inl, inr}
use Rattle.history_laws.proofs.FoldLemmas.{IsLegal-append}
use Rattle.history_laws.proofs.StampLemmas.{entries-fold}
use Rattle.history_laws.proofs.UnreadyLemmas.{lowest_is_first}
use Rattle.history_laws.proofs.SettleLemmas.{ids_after, intake_refusal}

-- ---- what it leaves

-- a history that a settle left, and why the settle was refused
pub record IsLeft (history : List Entry) (refused : Option Refusal) : Type 0 where
  pub smart : refused ≡ None → lowest_unready (fold history) ≡ None
  pub unready : (why : Refusal) → refused ≡ Some why → IsSome (lowest_unready (fold history))
  pub full : (why : Refusal) → refused ≡ Some why → max_entries ≤ length history
  pub reason : (why : Refusal) → refused ≡ Some why → why ≡ HistoryFull

-- what a settle that began behind `history` and did so leaves
abbrev pub Leaves : List Entry → Settled → Type 0
Leaves history done = IsLeft (history ++ done.added) done.refused

leaves : (seat line : ℕ) (history : List Entry) (ids : List ℕ) → unready_ids (fold history) ≡ ids → Leaves history (settled_from history seat line ids)
leaves seat line history [] is = let over = rw is at (lowest_is_first (fold history)) in rw append-nil (search (rules, over))
leaves seat line history (id ∷ ids) is =
    let next : List Entry = history ++ intake_entry history seat line id ∷ [] in
    let lowest = rw is at (lowest_is_first (fold history)) in
    let refusal = intake_refusal (fold history) id lowest in
    elim (cases_Bool (nat_le max_entries (fold history).entries)) [
      | inl full ↦ rw (refusal, full, append-nil) (search (rules, lowest, leb-true max_entries (fold history).entries full, entries-fold history))
      | inr room ↦ rw (refusal, room) (rw append_assoc at (leaves seat line next ids (ids_after history seat line id ids is)))
    ]

-- what any settle leaves
pub settle_leaves : (history : List Entry) (seat line : ℕ) → Leaves history (settled history seat line)
settle_leaves history seat line = leaves seat line history (unready_ids (fold history)) refl

-- ---- the entries that it adds

-- each takes one file in, for its line
pub settled_takes : (P : Entry → Type 0) (seat line : ℕ) → ((id stamp : ℕ) → P (entry_of seat line (Intake id stamp ∷ [])))
    → (history : List Entry) (ids : List ℕ) → AllByRecursion P (settled_from history seat line ids).added
settled_takes P seat line of_intake history [] = tt
settled_takes P seat line of_intake history (id ∷ ids) =
    let rest = settled_takes P seat line of_intake (history ++ intake_entry history seat line id ∷ []) ids in
    grind (arith, of_intake id (stamp_of (file_of (fold history) id)), rest)

-- there are no more than files
pub settled_few : (seat line : ℕ) (history : List Entry) (ids : List ℕ) → length (settled_from history seat line ids).added ≤ length ids
settled_few seat line history [] = omega arith
settled_few seat line history (id ∷ ids) = grind (arith, settled_few seat line (history ++ intake_entry history seat line id ∷ []) ids)

-- and a legal history stays legal with them
pub settled_legal : (seat line : ℕ) (history : List Entry) (ids : List ℕ) → IsLegal history → IsLegal (history ++ (settled_from history seat line ids).added)
settled_legal seat line history [] legal = rw append-nil legal
settled_legal seat line history (id ∷ ids) legal =
    let next : List Entry = history ++ intake_entry history seat line id ∷ [] in
    let same : IsLegal (history ++ []) = rw append-nil legal in
    let more = λ (accepted : list_refusal (fold history) (intake_of (fold history) id) ≡ None).
    rw append_assoc at (settled_legal seat line next ids (IsLegal-append history (intake_entry history seat line id) legal accepted)) in
    grind (arith, same, more)
