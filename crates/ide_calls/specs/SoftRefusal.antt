-- How a soft question gives way, and why it isn't answered.
use Rattle.std.specs.Prelude.{ℕ, ◌≡◌, Some}
use Rattle.action_lock.specs.declared.view.View.{View}
use Rattle.action_lock.specs.Counts.{counted_by}
use Rattle.action_lock.specs.Reads.{HasChecked}
use Rattle.nonblocking_read.specs.Polled.{HasSpentLess}
use Rattle.write_history.specs.declared.entry.Entry.{Entry}
use Rattle.write_history.specs.Fold.{fold}
use Rattle.queries.specs.declared.query.Query.{Query}
use Rattle.query_engine.specs.Looks.{MayLook}
use Rattle.ide_calls.specs.Sighting.{Sighting}
use Rattle.ide_calls.specs.declared.soft_refusal.SoftAskRefusal.{SoftAskRefusal}
use Rattle.ide_calls.specs.declared.soft_refusal.SoftAskRefusal.TheVariants.{Cancelled, OutOfMemory}

-- The read that answered a soft question looked whether a write waits, as often as the question owes in the world that is now seen, and saw
-- none; and the reads of the call before it saw one fewer times than there were attempts
pub record HasGivenWay (attempts : ℕ) (query : Query) (v w : View Entry) : Type 0 where
  pub looks : ℕ
  pub owed : MayLook (fold w.seen) query looks
  pub checked : HasChecked looks v w
  pub spent : HasSpentLess attempts v.sights w.sights

-- the sightings are this pass's, at the entry and at the exit of the call, and rose by as many as the attempts that it was allowed, or stand at
-- the last value
pub record HasSighted (v w : View Entry) (attempts : ℕ) (sighted : Sighting) : Type 0 where
  pub seat : v.number ≡ Some sighted.seat
  pub allowed : sighted.attempts ≡ attempts
  pub before : sighted.before ≡ v.sights
  pub after : sighted.after ≡ w.sights
  pub risen : w.sights ≡ counted_by attempts v.sights

-- when each refusal comes
abbrev pub IsSoftlyRefused : View Entry → View Entry → ℕ → SoftAskRefusal → Type 0
IsSoftlyRefused v w attempts (Cancelled sighted) = HasSighted v w attempts sighted
IsSoftlyRefused v w attempts OutOfMemory = HasSpentLess attempts v.sights w.sights
