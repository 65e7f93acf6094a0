use Rattle.ide_world.proofs.ReaderLemmas.{live-files_from}
use Rattle.ide_world.proofs.state.State.live_count.Goals as goal

pub returns : goal.returns
returns c = rw (← c.self.view_is, live-files_from) c.live.ensures
