use Rattle.demo.proofs.ScriptLemmas.{demo-short}
use Rattle.demo.proofs.laws.demos_are_short.Goals as goal

pub returns : goal.returns
returns c = demo-short
