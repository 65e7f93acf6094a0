-- A draft: a world, and the steps that were made from it so far.
use Rattle.std.specs.Prelude.{◌≡◌, ◌≤◌, ◌+◌, ◌*◌, List, [], ◌∷◌, ◌++◌, length}
use Rattle.write_history.specs.declared.change.Change.{Change}
use Rattle.write_history.specs.World.{World, count_of, is_open}
use Rattle.write_history.specs.Effect.{put_of, max_files, max_entries}
use Rattle.write_history.specs.Fold.{effect_of}
use Rattle.ide_world.specs.declared.step.Step.{Step}
use Rattle.ide_world.specs.Step.{after_steps}
use Rattle.ide_world.specs.Sound.{AreSoundFiles, IsSoundWorld}
use Rattle.ide_world.specs.Ready.{ids_of}
use Rattle.ide_world.specs.Lawful.{AreLawfulFrom, max_steps}
use Rattle.ide_world.specs.declared.draft.Draft.TheInside.{Inside}

-- what contracts see of a draft
pub record Drafted : Type 0 where
  -- the world of the state
  pub base : World
  -- what was made of it so far
  pub steps : List Step

-- the world now
abbrev pub drafted_world : Drafted → World
drafted_world draft = after_steps draft.base draft.steps

-- what holds of a draft
pub record IsDraft (draft : Drafted) : Type 0 where
  pub base : IsSoundWorld draft.base
  pub lawful : AreLawfulFrom draft.base draft.steps
  pub few : length draft.steps ≤ max_steps
  pub files : AreSoundFiles (drafted_world draft)

-- what contracts see of the fields
abbrev pub drafted : Inside → Drafted
drafted inside = record { base = inside.state.now.world; steps = inside.steps }

-- what holds of the fields
pub record IsKept (inside : Inside) : Type 0 where
  pub draft : IsDraft (drafted inside)
  pub made : inside.made ≡ length (drafted_world (drafted inside)).files
  pub opened : inside.opened ≡ count_of is_open (drafted_world (drafted inside))
  pub stamp : inside.next_stamp ≡ (drafted_world (drafted inside)).next_stamp
  pub small : inside.made ≤ max_files
  pub early : inside.next_stamp ≤ 64 * max_entries + 1 + length inside.steps

-- a draft after one change more, which is accepted
pub record IsExtended (old new : Drafted) (change : Change) : Type 0 where
  pub draft : IsDraft new
  pub base : new.base ≡ old.base
  pub effect : drafted_world new ≡ effect_of (drafted_world old) change
  pub ids : ids_of new.steps ≡ ids_of old.steps ++ (put_of (drafted_world old) change).id ∷ []
  pub count : length new.steps ≡ length old.steps + 1
