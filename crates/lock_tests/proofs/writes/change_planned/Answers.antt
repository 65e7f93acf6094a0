use Rattle.std.proofs.Common.{rules}
use Rattle.action_lock.specs.Passes.{view_of}
use Rattle.lock_tests.proofs.writes.change_planned.Goals as goal

pub carry_out-requires : goal.carry_out-requires
carry_out-requires g c = search rules

pub finish-requires-clause-added : goal.finish-requires-clause-added
finish-requires-clause-added g c = search rules

pub returns-clause-made : goal.returns-clause-made
returns-clause-made g c _ =
    let seen = (view_of c.write.new.self).seen in
    let stands : g.H.Home.stands c.home_mut.result.now seen = search rules in
    let added = c.carry_out.ensures seen stands in
    let made = c.finish.ensures.view c.carry_out.new.home added.0 (search rules) added.2 in
    record { before = seen; entry = added.0; longer = search rules; seen = search rules; mine = search rules }
