use Rattle.std.proofs.Common.{subst}
use Rattle.write_history.specs.World.{World}
use Rattle.ide_world.specs.Ready.{Makes}
use Rattle.replay.specs.Steps.{intake_of}
use Rattle.replay.proofs.replay.Replay.take_in.Goals as goal

pub returns-in-Ok-clause-world : goal.returns-in-Ok-clause-world
returns-in-Ok-clause-world c =
    c.in-Ok.ensures.ok (intake_of c.args.self.now c.args.file)
    (subst (λ (w : World). Makes w c.in_ok-ready.ready (intake_of w c.args.file)) c.self.view_is c.in_ok-ready.ensures.makes)
