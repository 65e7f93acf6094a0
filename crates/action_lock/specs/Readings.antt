-- What contracts see of a pass that reads.
use Rattle.std.specs.Prelude.{◌≡◌, Option, Result, IfErr}
use Rattle.std.specs.declared.alloc.AllocError.{AllocError}
use Rattle.std.specs.Borrow.{Fml, GName, RattleType, MutBor, RestsIfErr}
use Rattle.action_lock.specs.declared.home.Home.{Ghosts}
use Rattle.action_lock.specs.declared.lock.ActionLock.{ActionLock}
use Rattle.action_lock.specs.declared.pass.Pass.{Pass}
use Rattle.action_lock.specs.declared.reading.Reading.{Reading}
use Rattle.action_lock.specs.declared.refusal.ReadRefusal.{ReadRefusal}
use Rattle.action_lock.specs.declared.view.Phase.TheVariants as phase
use Rattle.action_lock.specs.contracts.pass.Pass as pass
use Rattle.action_lock.specs.Advances.{Advances}
use Rattle.action_lock.specs.Passes.{view_of, IsSamePass, IsAt, IsInside, IsOut}
use Rattle.action_lock.specs.Reads.{HasLooked, HasFailed, HasWaited, IsRefused}

module _ {H E S : Type 0} {g : Ghosts H E S} where
  -- the lock of a read
  abbrev pub lock_of : Reading H E S g → ActionLock H E S
  lock_of r = r.lock.now

  -- the pass that reads
  abbrev pub pass_of : Reading H E S g → Pass H E S g
  pass_of r = r.pass.now

  -- the loan by which it has the pass
  abbrev pub loan_of : Reading H E S g → GName
  loan_of r = r.pass.ghost_name

  -- the share that it keeps, unless its work has it
  abbrev pub kept_share : Reading H E S g → Option S
  kept_share r = r.pass.now.share

  -- the read goes on, whoever has its share
  pub record GoesOn (r : Reading H E S g) : Type 0 where
    pub at : IsAt r.lock.now r.pass.now phase.Reading

  -- the read goes on, and has its share, which stands for all that the pass has seen
  pub record IsReading (r : Reading H E S g) : Type 0 where
    pub inside : IsInside r.lock.now r.pass.now

  -- the same read of the same pass
  pub record IsSameRead (q r : Reading H E S g) : Type 0 where
    pub lock : r.lock ≡ q.lock
    pub pass : IsSamePass q.pass.now r.pass.now

  -- the same read, after some looks, or none
  pub record StaysReading (q r : Reading H E S g) : Type 0 where
    pub same_reference : r.pass.ghost_name ≡ q.pass.ghost_name
    pub lock : r.lock ≡ q.lock
    pub pass : IsSamePass q.pass.now r.pass.now
    pub share : r.pass.now.share ≡ q.pass.now.share
    pub view : HasLooked (view_of q.pass.now) (view_of r.pass.now)
    pub reads : IsReading q → IsReading r

module _ (H E S : RattleType) (g : Ghosts H.Denot E.Denot S.Denot) where
  -- where the read was refused, the pass is out again, and has learned the word that was found; where there was no memory, what `HasFailed` says
  abbrev pub rests_if_refused : ActionLock H.Denot E.Denot S.Denot → MutBor (Pass H.Denot E.Denot S.Denot g) → Result (Reading H.Denot E.Denot S.Denot g) ReadRefusal → Fml
  rests_if_refused lock p r = RestsIfErr (pass.the_row H E S g) p (λ it. it.pass.ghost_name) r
      (λ last. IfErr r (λ refusal. IsOut lock last × IsSamePass p.now last × IsRefused g.number_of refusal (view_of p.now) (view_of last) × Advances (view_of p.now) (view_of last)))

  -- where there was no memory, the pass is out again
  abbrev pub rests_if_no_memory : ActionLock H.Denot E.Denot S.Denot → MutBor (Pass H.Denot E.Denot S.Denot g) → Result (Reading H.Denot E.Denot S.Denot g) AllocError → Fml
  rests_if_no_memory lock p r = RestsIfErr (pass.the_row H E S g) p (λ it. it.pass.ghost_name) r
      (λ last. IsOut lock last × IsSamePass p.now last × HasWaited (HasFailed g.number_of) (view_of p.now) (view_of last) × Advances (view_of p.now) (view_of last))
