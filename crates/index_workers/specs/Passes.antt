-- What contracts see of a pass of a shared workspace.
use Rattle.std.specs.Prelude.{◌≡◌, ◌≤◌, length}
use Rattle.action_lock.specs.declared.lock.ActionLock.{ActionLock}
use Rattle.action_lock.specs.declared.view.View.{View}
use Rattle.action_lock.specs.Advances.{Advances}
use Rattle.action_lock.specs.Passes.{view_of, IsSamePass, IsPassOf}
use Rattle.write_history.specs.declared.entry.Entry.{Entry}
use Rattle.ide_calls.specs.declared.home.IdeHome.{IdeHome}
use Rattle.ide_calls.specs.declared.share.IdeShare.{IdeShare}
use Rattle.job_queue.specs.declared.queue.JobQueue.{JobQueue}
use Rattle.job_queue.specs.Passes.{queue_view, IsQueuePassOf, IsSameQueuePass}
use Rattle.index_workers.specs.declared.pass.IdePass.{IdePass}

-- what the lock's rule knows of the pass
abbrev pub ide_view : IdePass → View Entry
ide_view p = view_of p.lock

-- the same pass at another time
pub record IsSameIdePass (p q : IdePass) : Type 0 where
  pub of_lock : IsSamePass p.lock q.lock
  pub of_queue : IsSameQueuePass p.queue q.queue

-- the pass is one of this lock and this queue, at rest, and known to both by the same number; it has put no more hints than it made entries
pub record IsIdePassOf (l : ActionLock IdeHome Entry IdeShare) (j : JobQueue) (p : IdePass) : Type 0 where
  pub rests : IsPassOf l p.lock
  pub queued : IsQueuePassOf j p.queue
  pub number : (queue_view p.queue).number ≡ (view_of p.lock).number
  pub drawn : (queue_view p.queue).drawn ≡ (view_of p.lock).drawn
  pub ended : length (queue_view p.queue).ended ≡ length (view_of p.lock).ended
  pub few : length (queue_view p.queue).put ≤ length (view_of p.lock).mine

-- the pass is again one of this lock and this queue and at rest, the same one, and has lost nothing of what it knew
pub record Continues (l : ActionLock IdeHome Entry IdeShare) (j : JobQueue) (p q : IdePass) : Type 0 where
  pub rests : IsIdePassOf l j q
  pub same : IsSameIdePass p q
  pub advances : Advances (ide_view p) (ide_view q)
