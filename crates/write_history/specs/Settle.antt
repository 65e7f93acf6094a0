-- What a settle adds to a history.
use Rattle.std.specs.Prelude.{ℕ, List, [], ◌∷◌, ◌++◌, Option, Some, None}
use Rattle.write_history.specs.declared.change.Change.{Change}
use Rattle.write_history.specs.declared.change.Change.TheVariants.{Intake}
use Rattle.write_history.specs.declared.entry.Entry.{Entry}
use Rattle.write_history.specs.declared.refusal.Refusal.{Refusal}
use Rattle.write_history.specs.World.{World, file_of, unready_ids}
use Rattle.write_history.specs.Effect.{stamp_of}
use Rattle.write_history.specs.Fold.{fold, list_refusal, ListRefusal}

-- the entries that a settle adds, and why it ended before every file was ready, if it did
pub record Settled : Type 0 where
  pub added : List Entry
  pub refused : Option Refusal

-- the entry that the pass with this number makes of changes for a line
abbrev pub entry_of : ℕ → ℕ → List Change → Entry
entry_of seat line changes = record { seat = seat; line = line; changes = changes }

-- the intake of the file with an id at its stamp
abbrev pub intake_of : World → ℕ → List Change
intake_of world id = Intake id (stamp_of (file_of world id)) ∷ []

-- the entry by which the file with an id is taken in
abbrev pub intake_entry : List Entry → ℕ → ℕ → ℕ → Entry
intake_entry history seat line id = entry_of seat line (intake_of (fold history) id)

-- nothing is left to be added
abbrev pub all_settled : Settled
all_settled = record { added = []; refused = None }

-- nothing more is added, for this reason
abbrev pub refused_for : Refusal → Settled
refused_for why = record { added = []; refused = Some why }

-- an entry before what is added after it
abbrev pub with_entry : Entry → Settled → Settled
with_entry entry rest = record { added = entry ∷ rest.added; refused = rest.refused }

-- a settle goes on with the next file unless this one's intake is refused
abbrev pub settled_unless : Option ListRefusal → Entry → Settled → Settled
settled_unless None entry rest = with_entry entry rest
settled_unless (Some refusal) entry rest = refused_for refusal.why

-- one intake for each of these files, in order
abbrev pub settled_from : List Entry → ℕ → ℕ → List ℕ → Settled
settled_from history seat line [] = all_settled
settled_from history seat line (id ∷ ids) =
    settled_unless (list_refusal (fold history) (intake_of (fold history) id)) (intake_entry history seat line id)
    (settled_from (history ++ intake_entry history seat line id ∷ []) seat line ids)

-- a settle takes in every unready file, in order of ids, up to the first whose intake is refused
abbrev pub settled : List Entry → ℕ → ℕ → Settled
settled history seat line = settled_from history seat line (unready_ids (fold history))
