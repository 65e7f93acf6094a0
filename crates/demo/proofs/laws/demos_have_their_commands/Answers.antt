use Rattle.demo.proofs.ScriptLemmas.{length-creates, length-edits}
use Rattle.demo.proofs.laws.demos_have_their_commands.Goals as goal

pub returns : goal.returns
returns c = record { creates = length-creates; edits = length-edits }
