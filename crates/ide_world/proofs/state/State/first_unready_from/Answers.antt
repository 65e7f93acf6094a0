use Rattle.ide_world.proofs.ReaderLemmas.{first_or_lowest}
use Rattle.ide_world.proofs.state.State.first_unready_from.Goals as goal

pub returns : goal.returns
returns c =
    let first = first_or_lowest c.self.inside c.args.from c.lowest_from-found.result c.lowest_from.result c.self.invariant
    (assumption c.lowest_from-found.ensures) (assumption c.lowest_from.ensures) in
    rw (← c.self.view_is, c.or.ensures) (assumption first)
