-- A settle goes on by the unready file with the lowest id, whose intake is refused only where the history is full.
pub use Rattle.history_laws.proofs.Words.{rules, ℕ, ◌≡◌, ◌<◌, ◌≤◌, length, arith, nat_tests, false, List, [], ◌∷◌, ◌++◌, refl, ap, Some, None, option_map}
pub use Rattle.history_laws.proofs.Words.{is_none, nat_le, if◌then◌else◌, eq-eqb, Entry, Refusal, HistoryFull, World, file_of, unready_ids, lowest_unready}
pub use Rattle.history_laws.proofs.Words.{max_entries, stamp_of, fold, list_refusal, refusal_or, ListRefusal, all_settled, refused_for, with_entry}
pub use Rattle.history_laws.proofs.Words.{settled_from, settled, intake_of, intake_entry}
use Rattle.history_laws.proofs.FoldLemmas.{fold-append}
pub use Rattle.history_laws.proofs.StampLemmas.{entries-fold}
use Rattle.history_laws.proofs.UnreadyLemmas.{no_ids, ids_of_lowest, lowest-Some, unready-intake, fewer-intake}

-- where no file is unready a settle is over
pub settled-over : (history : List Entry) (seat line : ℕ) → lowest_unready (fold history) ≡ None → settled history seat line ≡ all_settled
settled-over history seat line lowest = ap (settled_from history seat line) (no_ids (fold history) lowest)

-- where the intake of the first unready file is refused it ends there
pub settled-ends : (history : List Entry) (seat line id : ℕ) (why : Refusal) → lowest_unready (fold history) ≡ Some id
    → option_map (λ (r : ListRefusal). r.why) (list_refusal (fold history) (intake_of (fold history) id)) ≡ Some why
    → settled history seat line ≡ refused_for why
settled-ends history seat line id why lowest refused = rw (ids_of_lowest (fold history) id lowest).1 (grind (arith, refused))

-- the others are unready after the intake of the first
pub ids_after : (history : List Entry) (seat line id : ℕ) (others : List ℕ) → unready_ids (fold history) ≡ id ∷ others
    → unready_ids (fold (history ++ intake_entry history seat line id ∷ [])) ≡ others
ids_after history seat line id others is = rw fold-append (unready-intake (fold history) id _ others is refl)

-- else it goes on after that intake
pub settled-goes_on : (history : List Entry) (seat line id : ℕ) → lowest_unready (fold history) ≡ Some id
    → list_refusal (fold history) (intake_of (fold history) id) ≡ None
    → settled history seat line ≡ with_entry (intake_entry history seat line id) (settled (history ++ intake_entry history seat line id ∷ []) seat line)
settled-goes_on history seat line id lowest accepted =
    let ids = ids_of_lowest (fold history) id lowest in rw (ids.1, accepted, ids_after history seat line id ids.0 ids.1) refl

-- and fewer files are unready then
pub settled-fewer : (history : List Entry) (seat line id : ℕ) → lowest_unready (fold history) ≡ Some id
    → length (unready_ids (fold (history ++ intake_entry history seat line id ∷ []))) < length (unready_ids (fold history))
settled-fewer history seat line id lowest = rw fold-append (fewer-intake (fold history) id lowest)

-- ---- why an intake is refused

-- the intake of the lowest unready file at its stamp is refused where the history is full, and only there
pub intake_refusal : (world : World) (id : ℕ) → lowest_unready world ≡ Some id
    → list_refusal world (intake_of world id) ≡ refusal_or (if nat_le max_entries world.entries then Some HistoryFull else None) None
intake_refusal world id lowest =
    let live : is_none (file_of world id) ≡ false = grind (arith, (lowest-Some world id lowest).0) in
    rw (live, eq-eqb (stamp_of (file_of world id)) _ refl) refl

-- so where one is refused, it is since the history is full
pub intake-full : (world : World) (id : ℕ) (refusal : ListRefusal) → lowest_unready world ≡ Some id
    → list_refusal world (intake_of world id) ≡ Some refusal → (refusal.why ≡ HistoryFull) × (max_entries ≤ world.entries)
intake-full world id refusal lowest refused = grind (arith, nat_tests, intake_refusal world id lowest, refused)
