use Rattle.script_lang.proofs.GrammarScript.{script_of-IsScript}
use Rattle.script_lang.proofs.laws.scripts_are_read_in_one_way.Goals as goal

pub returns : goal.returns
returns c = λ bytes script other is also. cc (script_of-IsScript bytes script is, script_of-IsScript bytes other also)
