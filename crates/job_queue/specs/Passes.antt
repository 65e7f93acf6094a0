-- What contracts see of a pass.
use Rattle.std.specs.Prelude.{◌≡◌}
use Rattle.crossbeam_queue.specs.Passes.{view, IsPassOf, IsSamePass}
use Rattle.job_queue.specs.declared.view.QueueView.{QueueView}
use Rattle.job_queue.specs.declared.pass.QueuePass.{QueuePass}
use Rattle.job_queue.specs.declared.queue.JobQueue.{JobQueue}

-- what the queue's rule knows of the pass
abbrev pub queue_view : QueuePass → QueueView
queue_view p = view p.seat

-- the pass is one of this queue
abbrev pub IsQueuePassOf : JobQueue → QueuePass → Type 0
IsQueuePassOf q p = IsPassOf q.ring p.seat

-- the same pass at another time
abbrev pub IsSameQueuePass : QueuePass → QueuePass → Type 0
IsSameQueuePass p q = IsSamePass p.seat q.seat × (q.number ≡ p.number)
