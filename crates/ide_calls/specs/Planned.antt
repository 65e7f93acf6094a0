-- Changes that are ready to go in, or refused.
use Rattle.std.specs.Prelude.{◌≡◌, List, false, Some}
use Rattle.action_lock.specs.declared.view.View.{View}
use Rattle.nonblocking_read.specs.Soft.{HasOnlyRead}
use Rattle.write_history.specs.declared.change.Change.{Change}
use Rattle.write_history.specs.declared.entry.Entry.{Entry}
use Rattle.write_history.specs.World.{World}
use Rattle.write_history.specs.Fold.{fold, list_refusal}
use Rattle.ide_world.specs.Ready.{IsReadyFor, Makes, IsFirstAccepted}
use Rattle.write_history.specs.Effect.{is_want_of_memory}
use Rattle.ide_calls.specs.Reads.{HasReadOnce}
use Rattle.ide_calls.specs.declared.group_refusal.GroupChangeRefusal.{GroupChangeRefusal}
use Rattle.ide_calls.specs.declared.group_refusal.GroupChangeRefusal.TheVariants.{Refused, OutOfMemory}
use Rattle.ide_calls.specs.declared.planning.Planned.{Planned}

-- the changes may go in behind the history of this world
pub record IsPlanned (world : World) (changes : List Change) (planned : Planned) : Type 0 where
  pub ready : IsReadyFor world planned.ready
  pub makes : Makes world planned.ready changes
  pub is_at : planned.at ≡ world.entries

-- why the changes may not go in: a refusal of the first of them is never reported as out of memory
abbrev pub IsRefusedIn : World → List Change → GroupChangeRefusal → Type 0
IsRefusedIn world changes (Refused at place why) =
    (at ≡ world.entries) × (list_refusal world changes ≡ Some (record { place = place; why = why })) × (is_want_of_memory why ≡ false)
IsRefusedIn world changes OutOfMemory = IsFirstAccepted world changes

-- the pass has read under its intent, and the changes may go in behind what it found
pub record HasPlanned (v w : View Entry) (changes : List Change) (planned : Planned) : Type 0 where
  pub read : HasReadOnce v w
  pub is : IsPlanned (fold w.seen) changes planned

-- the changes are refused by what the pass has read under its intent; of running out of memory, that nothing was made
abbrev pub IsUnplanned : View Entry → View Entry → List Change → GroupChangeRefusal → Type 0
IsUnplanned v w changes (Refused at place why) = HasReadOnce v w × IsRefusedIn (fold w.seen) changes (Refused at place why)
IsUnplanned v w changes OutOfMemory = HasOnlyRead v w
