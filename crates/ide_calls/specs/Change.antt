-- How a change, or a group of changes, is answered.
use Rattle.std.specs.Prelude.{ℕ, ◌≡◌, List, [], ◌∷◌, ◌++◌, Option, Some, None, false}
use Rattle.action_lock.specs.declared.view.View.{View}
use Rattle.nonblocking_read.specs.Soft.{HasOnlyRead}
use Rattle.write_history.specs.declared.change.Change.{Change}
use Rattle.write_history.specs.declared.entry.Entry.{Entry}
use Rattle.write_history.specs.declared.refusal.Refusal.{Refusal}
use Rattle.write_history.specs.Fold.{fold}
use Rattle.write_history.specs.Serial.{changes_step}
use Rattle.write_history.specs.Effect.{is_want_of_memory}
use Rattle.ide_world.specs.Ready.{hinted}
use Rattle.ide_calls.specs.Made.{IsAnsweredByRead}
use Rattle.ide_calls.specs.declared.change_refusal.ChangeRefusal.{ChangeRefusal}
use Rattle.ide_calls.specs.declared.change_refusal.ChangeRefusal.TheVariants as change
use Rattle.ide_calls.specs.declared.group_refusal.GroupChangeRefusal.{GroupChangeRefusal}
use Rattle.ide_calls.specs.declared.group_refusal.GroupChangeRefusal.TheVariants as group

-- The changes went in as one entry, the last of a history of this length
abbrev pub HasAccepted : View Entry → View Entry → ℕ → List Change → ℕ → Type 0
HasAccepted v w line changes at = IsAnsweredByRead (λ start seat. changes_step start seat line changes) v w (at, None)

-- The last entry that is now seen made these changes, and this is the file that is to be indexed after them: the first of the changed files
-- that they left unready, if one is
pub record HasLeft (w : View Entry) (changes : List Change) (unready : Option ℕ) : Type 0 where
  pub before : List Entry
  pub entry : Entry
  pub made : entry.changes ≡ changes
  pub seen : w.seen ≡ before ++ entry ∷ []
  pub is_first : unready ≡ hinted (fold before) changes

-- After a history of this length the change at this place of the list is the first that is refused, for this reason. Nothing was made
pub record HasRefused (v w : View Entry) (line : ℕ) (changes : List Change) (at place : ℕ) (why : Refusal) : Type 0 where
  pub answered : IsAnsweredByRead (λ start seat. changes_step start seat line changes) v w (at, Some (record { place = place; why = why }))
  pub no_want : is_want_of_memory why ≡ false

-- when each refusal of a group comes; of running out of memory, that nothing was made
abbrev pub IsGroupRefused : View Entry → View Entry → ℕ → List Change → GroupChangeRefusal → Type 0
IsGroupRefused v w line changes (group.Refused at place why) = HasRefused v w line changes at place why
IsGroupRefused v w line changes group.OutOfMemory = HasOnlyRead v w

-- when each refusal of a change comes: as for a group of this change alone
abbrev pub IsChangeRefused : View Entry → View Entry → ℕ → Change → ChangeRefusal → Type 0
IsChangeRefused v w line c (change.Refused at why) = HasRefused v w line (c ∷ []) at 1 why
IsChangeRefused v w line c change.OutOfMemory = HasOnlyRead v w
