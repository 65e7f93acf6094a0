-- When steps may be carried out.
use Rattle.std.specs.Prelude.{ℕ, ◌≡◌, ◌<◌, ◌≤◌, ◌+◌, List, [], ◌∷◌, length, Some, None, IsSome, IfSome}
use Rattle.write_history.specs.World.{World, File, file_of, next_id}
use Rattle.write_history.specs.Effect.{max_files}
use Rattle.ide_world.specs.declared.step.Step.{Step}
use Rattle.ide_world.specs.RowEdits.{edited_row, put_row}
use Rattle.ide_world.specs.DocEdits.{edited_document, IsDocEditFit, IsWide}
use Rattle.ide_world.specs.IndexEdits.{Indexed, edited_index}
use Rattle.ide_world.specs.Step.{row_part, document_part, stepped, after_step, drawn_by}
use Rattle.ide_world.specs.Sound.{IsSoundFile, HoldsIndex}
use Rattle.ide_world.specs.Room.{room_needed}

-- the most steps of a list
abbrev pub max_steps : ℕ
max_steps = 64

-- no other live file has the path
abbrev pub IsPathFree : World → ℕ → List ℕ → Type 0
IsPathFree world id path = (other : ℕ) (file : File) → file_of world other ≡ Some file → file.path ≡ path → other ≡ id

-- a step that may be carried out
pub record IsLawfulStep (world : World) (step : Step) : Type 0 where
  pub some : 1 ≤ step.id
  pub within : step.id ≤ next_id world
  pub made : step.id ≡ next_id world → (length world.files < max_files) × IsSome (put_row step.row)
  pub path : IfSome (put_row step.row) (λ row. IsPathFree world step.id row.path)
  pub doc : IsDocEditFit step.doc (document_part (file_of world step.id))
  pub whole : edited_row step.row (row_part (file_of world step.id)) ≡ None → edited_document step.doc (document_part (file_of world step.id)) ≡ None
  pub sound : IsSoundFile (world.next_stamp + drawn_by step) (stepped step (file_of world step.id))
  pub index : (held : Indexed) → HoldsIndex (file_of world step.id) held → HoldsIndex (stepped step (file_of world step.id)) (edited_index step.index held)

-- each step is lawful where the earlier ones lead
abbrev pub AreLawfulFrom : World → List Step → Type 0
AreLawfulFrom world [] = Unit {0}
AreLawfulFrom world (step ∷ steps) = IsLawfulStep world step × AreLawfulFrom (after_step world step) steps

-- each document that a step brings has the room that it needs before the later ones
abbrev pub AreWide : List Step → Type 0
AreWide [] = Unit {0}
AreWide (step ∷ steps) = IsWide (room_needed step.id steps) step.doc × AreWide steps

-- a list of steps that may be carried out
pub record AreLawful (world : World) (steps : List Step) : Type 0 where
  pub each : AreLawfulFrom world steps
  pub few : length steps ≤ max_steps
  pub wide : AreWide steps
