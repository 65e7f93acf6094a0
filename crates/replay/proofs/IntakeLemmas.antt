-- When the intake of a file at its present stamp isn't refused.
use Rattle.std.proofs.Common.{ℕ, ◌≡◌, ◌<◌, Bool, false, refl, sym, ap, ◌∙◌, Some, None, Option}
use Rattle.std.specs.Prelude.{is_none, nat_le, if◌then◌else◌}
use Rattle.std.proofs.lemmas.Bool.{eq-eqb, lt-leb}
use Rattle.vfs_core.specs.declared.row.FileRow.{FileRow}
use Rattle.write_history.specs.declared.change.Change.TheVariants.{Intake}
use Rattle.write_history.specs.declared.refusal.Refusal.{Refusal}
use Rattle.write_history.specs.declared.refusal.Refusal.TheVariants.{HistoryFull}
use Rattle.write_history.specs.World.{World, File, file_of}
use Rattle.write_history.specs.Effect.{max_entries, stamp_of, refusal_of}
use Rattle.write_history.specs.Fold.{list_refusal, refusal_or}
use Rattle.ide_world.specs.Step.{row_part}
use Rattle.replay.specs.Steps.{intake_of}

live : (file : Option File) (row : FileRow) → row_part file ≡ Some row → is_none file ≡ false
live None row h = absurd (cc)
live (Some file) row h = refl

-- of the reasons to refuse the intake of a live file at its stamp the last is left
full_alone : (world : World) (id : ℕ) → is_none (file_of world id) ≡ false
    → refusal_of world (Intake id (stamp_of (file_of world id))) ≡ (if nat_le max_entries world.entries then Some HistoryFull else None)
full_alone world id is_live =
    let same = eq-eqb (stamp_of (file_of world id)) (stamp_of (file_of world id)) refl in rw is_live (rw same refl)

-- where the history isn't full a live file is taken in
pub not_refused : (world : World) (id : ℕ) (row : FileRow) → Some row ≡ row_part (file_of world id) → world.entries < max_entries
    → list_refusal world (intake_of world id) ≡ None
not_refused world id row has room =
    ap (λ (o : Option Refusal). refusal_or o None)
    (full_alone world id (live (file_of world id) row (sym has)) ∙ ap (λ (b : Bool). if b then Some HistoryFull else None) (lt-leb max_entries world.entries room))
