use Rattle.std.proofs.Common.{subst}
use Rattle.write_history.specs.World.{World}
use Rattle.ide_world.specs.Ready.{Makes}
use Rattle.replay.proofs.replay.Replay.enter.Goals as goal

pub returns-in-Ok-clause-world : goal.returns-in-Ok-clause-world
returns-in-Ok-clause-world c =
    c.in-Ok.ensures.ok c.args.changes.now
    (subst (λ (w : World). Makes w c.in_ok-ready.ready c.args.changes.now) c.self.view_is c.in_ok-ready.ensures.makes)
