-- What it means that changes are ready to go in, and how they are refused.
use Rattle.std.specs.Prelude.{ℕ, ◌≡◌, ◌<◌, true, false, List, [], ◌∷◌, map, find, Option, Some, None}
use Rattle.write_history.specs.declared.change.Change.{Change}
use Rattle.write_history.specs.declared.refusal.Refusal.{Refusal}
use Rattle.write_history.specs.declared.refusal.Refusal.TheVariants.{OutOfMemory}
use Rattle.write_history.specs.World.{World, file_of, is_unready}
use Rattle.write_history.specs.Effect.{put_of, refusal_of, is_want_of_memory, max_entries}
use Rattle.write_history.specs.Fold.{ListRefusal, list_refusal, effect_of, effects_of}
use Rattle.ide_world.specs.declared.step.Step.{Step}
use Rattle.ide_world.specs.Step.{after_steps}
use Rattle.ide_world.specs.Lawful.{AreLawful}
use Rattle.ide_world.specs.declared.group.GroupRefusal.{GroupRefusal}

-- the ids of the files that changes are about, in order, each change being made where the earlier ones lead
abbrev pub changed_ids : World → List Change → List ℕ
changed_ids world [] = []
changed_ids world (change ∷ changes) = (put_of world change).id ∷ changed_ids (effect_of world change) changes

-- the first of these files that is unready
abbrev pub first_unready : World → List ℕ → Option ℕ
first_unready world ids = find (λ id. is_unready (file_of world id)) ids

-- the file that is to be indexed after changes: the first of the changed files that they leave unready, if one is
abbrev pub hinted : World → List Change → Option ℕ
hinted world changes = first_unready (effects_of world changes) (changed_ids world changes)

-- the ids of the files that steps are about
abbrev pub ids_of : List Step → List ℕ
ids_of steps = map (λ step. step.id) steps

-- the changes are accepted, and the steps do what they do, each to the file that its change is about
pub record Makes (world : World) (steps : List Step) (changes : List Change) : Type 0 where
  pub accepted : list_refusal world changes ≡ None
  pub effect : after_steps world steps ≡ effects_of world changes
  pub ids : ids_of steps ≡ changed_ids world changes

-- the steps may go in, with one entry more
pub record IsReadyFor (world : World) (steps : List Step) : Type 0 where
  pub lawful : AreLawful world steps
  pub entries : world.entries < max_entries

-- an answer other than `OutOfMemory` is this refusal
abbrev pub IsRefusalOf : Option Refusal → Refusal → Type 0
IsRefusalOf expected OutOfMemory = Unit {0}
IsRefusalOf expected why = expected ≡ Some why

-- the refusal of a list, as an answer tells it
abbrev pub told : GroupRefusal → ListRefusal
told refusal = record { place = refusal.place; why = refusal.why }

-- the first change of a list isn't refused
abbrev pub IsFirstAccepted : World → List Change → Type 0
IsFirstAccepted world [] = Unit {0}
IsFirstAccepted world (change ∷ changes) = refusal_of world change ≡ None

-- A list is refused by the rules, or as memory ran out; that never stands for a refusal of the first change.
pub record IsListRefused (world : World) (changes : List Change) (refusal : GroupRefusal) : Type 0 where
  pub by_rule : is_want_of_memory refusal.why ≡ false → list_refusal world changes ≡ Some (told refusal)
  pub memory : is_want_of_memory refusal.why ≡ true → IsFirstAccepted world changes
