use Rattle.std.proofs.Common.{arith}
use Rattle.list_laws.proofs.PartLemmas.{same_to_end}
use Rattle.ide_text.proofs.text.Text.is_same.Goals as goal

pub returns : goal.returns
returns c = same_to_end c.args.self.now c.args.other.now c.loop-at.at (omega arith) (omega arith) c.loop-at.invariant
