use Rattle.std.proofs.lemmas.Result.{on_ok_weaker}
use Rattle.script_store.proofs.AlongLemmas.{change_goes}
use Rattle.script_store.proofs.along.go.Goals as goal

pub enter-requires-in-Group : goal.enter-requires-in-Group
enter-requires-in-Group c = (rw c.in-Group.is at c.requires).1

pub returns-in_ok-copy-in-Change : goal.returns-in_ok-copy-in-Change
returns-in_ok-copy-in-Change c =
    on_ok_weaker c.enter-in-Change.result (change_goes c.args.load _ c.in-Change.change _ _ c.args.replay.now c.enter-in-Change.new.replay c.in-Change.is
    c.in_ok-copy-in-Change.ensures c.one.ensures) c.enter-in-Change.ensures
