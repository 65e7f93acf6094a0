-- What contracts see of a pass.
use Rattle.std.specs.Prelude.{◌≡◌, ◌⊎◌, ℕ, ◌+◌, List, [], ◌∷◌, ◌++◌, length, true, false, Some, None}
use Rattle.action_lock.specs.declared.home.Home.{Ghosts}
use Rattle.action_lock.specs.declared.view.Phase.{Phase}
use Rattle.action_lock.specs.declared.view.Phase.TheVariants.{Out, Entering, Lacking, Reading, Marking}
use Rattle.action_lock.specs.declared.view.View.{View}
use Rattle.action_lock.specs.declared.pass.Pass.{Pass}
use Rattle.action_lock.specs.declared.lock.ActionLock.{ActionLock}
use Rattle.action_lock.specs.declared.slot.Slot.{Slot}
use Rattle.action_lock.specs.declared.slot.Slot.TheVariants.{Share, Empty}
use Rattle.action_lock.specs.Slots.{writing_hand}
use Rattle.action_lock.specs.Words.{own_place}
use Rattle.action_lock.specs.Views.{Writing}

-- the view is that of number 0, and every other number that was given was met into it
pub record IsLast {E : Type 0} (v : View E) : Type 0 where
  pub leads : v.number ≡ Some 0
  pub all_met : v.drawn ≡ length v.ended + 1

module _ {H E S : Type 0} {g : Ghosts H E S} where
  -- what the lock's rule knows of the pass
  abbrev pub view_of : Pass H E S g → View E
  view_of p = p.seat.me.0

  -- the same pass at another time
  pub record IsSamePass (p q : Pass H E S g) : Type 0 where
    pub table : q.seat.table_id ≡ p.seat.table_id
    pub seat : q.seat.id ≡ p.seat.id

  -- the pass is one of this lock and in this phase, has nothing in hand, and nothing is left to tell it
  pub record IsAt (l : ActionLock H E S) (p : Pass H E S g) (expected : Phase) : Type 0 where
    pub table : p.seat.table_id ≡ l.table.shared.table_id
    pub phase : (view_of p).phase ≡ expected
    pub empty : p.seat.me.1 ≡ []
    pub told : (view_of p).olds ≡ []

  -- the pass keeps a share, which stands for all that it has seen
  pub record HasShare (p : Pass H E S g) : Type 0 where
    pub share : S
    pub kept : p.share ≡ Some share
    pub stands : g.share_stands share (view_of p).seen

  -- the pass is one of this lock and out
  pub record IsOut (l : ActionLock H E S) (p : Pass H E S g) : Type 0 where
    pub at : IsAt l p Out
    pub no_share : p.share ≡ None

  -- the pass reads
  pub record IsInside (l : ActionLock H E S) (p : Pass H E S g) : Type 0 where
    pub at : IsAt l p Reading
    pub has : HasShare p

  -- the pass is on its way in: it has its place's share in hand, which stands for all that it has seen
  pub record IsEntering (l : ActionLock H E S) (p : Pass H E S g) : Type 0 where
    pub share : S
    pub table : p.seat.table_id ≡ l.table.shared.table_id
    pub phase : (view_of p).phase ≡ Entering
    pub told : (view_of p).olds ≡ []
    pub hand : p.seat.me.1 ≡ (own_place (view_of p).places (view_of p).number, Share share) ∷ []
    pub stands : g.share_stands share (view_of p).seen

  -- the pass has found no share at its place, and has the empty slot in hand
  pub record IsLacking (l : ActionLock H E S) (p : Pass H E S g) : Type 0 where
    pub table : p.seat.table_id ≡ l.table.shared.table_id
    pub phase : (view_of p).phase ≡ Lacking
    pub told : (view_of p).olds ≡ []
    pub hand : p.seat.me.1 ≡ (own_place (view_of p).places (view_of p).number, Empty) ∷ []

  -- the pass has the turn of its place, and what the place keeps in hand: a share, or nothing
  abbrev pub HasFound : ActionLock H E S → Pass H E S g → Type 0
  HasFound l p = IsEntering l p ⊎ IsLacking l p

  -- the pass is one of this lock and at rest: out, with no intent
  pub record IsPassOf (l : ActionLock H E S) (p : Pass H E S g) : Type 0 where
    pub out : IsOut l p
    pub no_intent : (view_of p).intent ≡ false
    pub not_current : (view_of p).current ≡ false

  -- the pass is one of this lock, out, and has the intent
  pub record Intends (l : ActionLock H E S) (p : Pass H E S g) : Type 0 where
    pub out : IsOut l p
    pub intent : (view_of p).intent ≡ true

  -- the pass is one of this lock and in this phase of a write, with this in hand
  pub record IsWriting (l : ActionLock H E S) (p : Pass H E S g) (expected : Phase) (hand : List (ℕ × Slot H S)) : Type 0 where
    pub table : p.seat.table_id ≡ l.table.shared.table_id
    pub phase : (view_of p).phase ≡ expected
    pub hand_is : p.seat.me.1 ≡ hand
    pub intent : (view_of p).intent ≡ true
    pub told : (view_of p).olds ≡ []
    pub no_share : p.share ≡ None

  -- the pass is one of this lock, and has marked all places: it is to write once their readers have left
  abbrev pub Announces : ActionLock H E S → Pass H E S g → Type 0
  Announces l p = IsWriting l p (Marking (view_of p).places) []

  -- this home value is in the pass's hand, before the empty slots of the places that it has shut
  abbrev pub InHand : Pass H E S g → H → Type 0
  InHand p home = p.seat.me.1 ≡ writing_hand (view_of p).places home

  -- the pass is one of this lock and writes: it has the home value in hand
  pub record Writes (l : ActionLock H E S) (p : Pass H E S g) : Type 0 where
    pub home : H
    pub hand : InHand p home
    pub table : p.seat.table_id ≡ l.table.shared.table_id
    pub phase : (view_of p).phase ≡ Writing (view_of p).places
    pub intent : (view_of p).intent ≡ true
    pub told : (view_of p).olds ≡ []
    pub no_share : p.share ≡ None

  -- the home value in hand stands for these entries
  pub record HandStands (p : Pass H E S g) (entries : List E) : Type 0 where
    pub home : H
    pub hand : InHand p home
    pub stands : g.stands home entries

  -- the home value in hand stands for what was seen, and for this entry of the pass's own
  pub record HasAdded (p : Pass H E S g) : Type 0 where
    pub entry : E
    pub own : (view_of p).number ≡ Some (g.number_of entry)
    pub hand : HandStands p ((view_of p).seen ++ entry ∷ [])
