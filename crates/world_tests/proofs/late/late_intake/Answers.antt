use Rattle.std.proofs.Common.{IfSome, subst}
use Rattle.world_tests.proofs.LateLemmas.{work_stays, IsWorkOf}
use Rattle.world_tests.proofs.late.late_intake.Goals as goal

pub taken_in-requires : goal.taken_in-requires
taken_in-requires c =
    let work = subst (λ made. IfSome made (IsWorkOf c.changed.new.home c.args.file)) c.in-Some.is c.in_ok-made.ensures in
    work_stays c.a_task_stays_of_the_world.ensures c.changed.new.home c.changed-2.new.home c.args.file _ c.changed-2.ensures c.len.ensures.legal work
