use Rattle.job_queue.specs.Passes.{queue_view}
use Rattle.index_workers.specs.Hints.{HasOnlyPopped}
use Rattle.index_workers.specs.Passes.{ide_view, IsIdePassOf, IsSameIdePass}
use Rattle.index_workers.specs.Work.{HasGoneOn}
use Rattle.index_workers.proofs.working.worker.Given as goal

abbrev pub invariant-loop-turn : goal.invariant-loop-turn
invariant-loop-turn g l = record {
  rests : IsIdePassOf l.lock l.queue l.pass;
  same : IsSameIdePass l.initial.pass l.pass;
  hints : HasOnlyPopped (queue_view l.initial.pass.queue) (queue_view l.pass.queue);
  on : HasGoneOn (g.G.Gate.may_say l.gate) l.seat l.turn l.entries (ide_view l.initial.pass) (ide_view l.pass)
      (queue_view l.initial.pass.queue) (queue_view l.pass.queue);
}
